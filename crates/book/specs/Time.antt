-- Logical times and read marks: a stamp and a warp's number, compared by stamp first.
use Rattle.std.specs.Prelude.{ℕ, Bool, ◌&&◌, ◌||◌, ◌==◌, nat_lt}

abbrev pub Time : Type 0
Time = ℕ × ℕ

-- The first comes before the second.
abbrev pub earlier : Time → Time → Bool
earlier a b = nat_lt a.0 b.0 || (a.0 == b.0 && nat_lt a.1 b.1)
