-- The letters of the operations.
use Rattle.std.specs.Prelude.{◌≡◌, ℕ, List, [], ◌∷◌, map, find, Some, Option, ◌==◌}
use Rattle.protocol.specs.declared.call.Op.{Op}
use Rattle.protocol.specs.declared.call.Op.TheVariants.{Begin, Load, Store, Commit, Drop, Fetch}

-- The letter that stands for an operation in calls files and listings: B, L, S, C, D and F.
abbrev pub op_letter : Op → ℕ
op_letter Begin = 66
op_letter (Load line) = 76
op_letter (Store line value) = 83
op_letter Commit = 67
op_letter Drop = 68
op_letter Fetch = 70

-- Every operation at a line and a value.
abbrev pub ops_at : ℕ → ℕ → List Op
ops_at line value = Begin ∷ Load line ∷ Store line value ∷ Commit ∷ Drop ∷ Fetch ∷ []

-- The operation that a letter stands for. Only loads use the line, and only stores use the line and
-- the value.
abbrev pub op_named : ℕ → ℕ → ℕ → Option Op
op_named letter line value = find (λ op. letter == op_letter op) (ops_at line value)

-- The letter of each operation stands for that operation.
abbrev pub LettersNameBack : Type 0
LettersNameBack =
    (line value : ℕ)
    → map (λ op. op_named (op_letter op) line value) (ops_at line value) ≡ map Some
    (ops_at line value)

-- The operation that a letter stands for has that letter.
abbrev pub NamesKeepLetters : Type 0
NamesKeepLetters =
    (letter line value : ℕ) (op : Op) → op_named letter line value ≡ Some op → op_letter op ≡ letter
