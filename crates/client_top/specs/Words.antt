-- The words of a run: `run CONFIG W MARGIN`.
use Rattle.std.specs.Prelude.{ℕ, List, [], ◌∷◌, codes, Option, None, Some, option_and_then, if◌then◌else◌, String, map, nat_le}
use Rattle.std.specs.String.{string_bytes}
use Rattle.std.specs.Str.{bytes_eq}
use Rattle.std.specs.declared.alloc.Global.{Global}
use Rattle.base_types.specs.Forms.{passing}
use Rattle.client_proto.specs.Numbers.{decimal_up_to}
use Rattle.client_top.specs.declared.words.Run.{Run}

-- the bytes of the words
abbrev pub texts : List (String Global) → List (List ℕ)
texts words = map (λ word. string_bytes word) words

-- from 1 to 64 workers
abbrev pub workers_of : List ℕ → Option ℕ
workers_of text = option_and_then (passing (λ n. nat_le 1 n)) (decimal_up_to 64 text)

-- the workers and the margin, where both are there
abbrev pub run_by : Option ℕ → Option ℕ → Option Run
run_by None margin = None
run_by (Some workers) None = None
run_by (Some workers) (Some margin) = Some (record { workers = workers; margin = margin })

-- the run of these workers and this margin, of at most an hour
abbrev pub run_from : List ℕ → List ℕ → Option Run
run_from workers margin = run_by (workers_of workers) (decimal_up_to 3600 margin)

-- what the words ask for
abbrev pub run_of : List (List ℕ) → Option Run
run_of [] = None
run_of (name ∷ []) = None
run_of (name ∷ config ∷ []) = None
run_of (name ∷ config ∷ workers ∷ []) = None
run_of (name ∷ config ∷ workers ∷ margin ∷ []) = if bytes_eq name (codes "run") then run_from workers margin else None
run_of (name ∷ config ∷ workers ∷ margin ∷ more ∷ rest) = None
