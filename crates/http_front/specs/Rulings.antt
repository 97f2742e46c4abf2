-- What the fields of a head were found to say.
use Rattle.std.specs.Prelude.{ℕ, ◌≡◌, List, Result, Ok, Err, Some, None, codes}
use Rattle.wif_base.specs.Routes.{route}
use Rattle.http_front.specs.Fields.{Fields, values, length_fault, length_of}
use Rattle.http_front.specs.Heads.{fault_of}
use Rattle.http_front.specs.declared.judge.Ruling.{Ruling}
use Rattle.http_front.specs.declared.judge.Ruling.TheVariants.{Sound, Broken}
use Rattle.http_front.specs.declared.rule.HttpRule.{HttpRule}

-- the length that the Content-Length fields tell, or the rule that they break
abbrev pub IsLength : List (List ℕ) → Result ℕ HttpRule → Type 0
IsLength values (Ok size) = (length_fault values ≡ None) × (size ≡ length_of values)
IsLength values (Err rule) = length_fault values ≡ Some rule

-- the route and the length of the body, or the first rule that is broken
abbrev pub IsRuled : List ℕ → List ℕ → Fields → Ruling → Type 0
IsRuled method target fields (Sound found body) =
    (fault_of method target fields ≡ None) × (route target ≡ Some found) × (body ≡ length_of (values (codes "content-length") fields))
IsRuled method target fields (Broken rule) = fault_of method target fields ≡ Some rule
