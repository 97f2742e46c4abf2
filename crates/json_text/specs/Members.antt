-- Forms of member that several readers ask for.
use Rattle.std.specs.Prelude.{◌^◌, ℕ, List, Bool, false, Option, None, Some, option_and_then, nat_lt}
use Rattle.serde_json.specs.Data.{Data}
use Rattle.serde_json.specs.Find.{as_bool, as_number, as_u64}
use Rattle.base_types.specs.Forms.{passing}
use Rattle.json_text.specs.Document.{text_at}

-- the text of the form under a name
abbrev pub name_at : (List ℕ → Bool) → List ℕ → Data → Option (List ℕ)
name_at form name d = option_and_then (passing form) (text_at name d)

-- a boolean, and false where the member isn't there
abbrev pub switch : Option Data → Option Bool
switch None = Some false
switch (Some d) = as_bool d

-- a whole number of seconds below 2^53
abbrev pub date_of : Data → Option ℕ
date_of d = option_and_then (passing (λ n. nat_lt n (2 ^ 53))) (option_and_then as_u64 (as_number d))
