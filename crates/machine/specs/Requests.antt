-- Lists of requests.
use Rattle.std.specs.Prelude.{ℕ, List, map}
use Rattle.rules.specs.declared.state.Request.{Request}

-- The line of each request.
abbrev pub waiting_lines : List Request → List ℕ
waiting_lines queue = map (λ (r : Request). r.line) queue
