-- The line of a type, or of the first fault of a check of types.
use Rattle.std.specs.Prelude.{ℕ, List, ◌∷◌, ◌++◌, codes, map, Ok, Err}
use Rattle.std.specs.Fmt.{decimal}
use Rattle.cel_values.specs.declared.env.Binding.{Binding}
use Rattle.cel_eval.specs.Denotation.{Env}
use Rattle.cel_types.specs.declared.cel_type.CelType.{CelType, fold-CelType}
use Rattle.cel_types.specs.declared.cel_type.CelType.TheOpen.{CelType-F}
use Rattle.cel_types.specs.declared.cel_type.Declaration.{Declaration}
use Rattle.cel_types.specs.declared.fault.TypeRule.{TypeRule}
use Rattle.cel_types.specs.declared.fault.TypeRule.TheVariants.{T1, T2, T3}
use Rattle.cel_types.specs.Rules.{Decls}
use Rattle.cel_types.specs.Typing.{OrFault}

-- a type, from the text of its part
abbrev pub type_text_step : CelType-F (List ℕ) → List ℕ
type_text_step CelType-F.Dyn = codes "dyn"
type_text_step CelType-F.Null = codes "null"
type_text_step CelType-F.Bool = codes "bool"
type_text_step CelType-F.Int = codes "int"
type_text_step CelType-F.Text = codes "string"
type_text_step CelType-F.Time = codes "timestamp"
type_text_step CelType-F.Span = codes "duration"
type_text_step (CelType-F.List text) = codes "list(" ++ (text ++ codes ")")
type_text_step (CelType-F.Map text) = codes "map(" ++ (text ++ codes ")")

-- the text of a type
abbrev pub type_text : CelType → List ℕ
type_text = fold-CelType (List ℕ) type_text_step

-- the name of a typing rule
abbrev pub type_rule_name : TypeRule → List ℕ
type_rule_name T1 = codes "T1"
type_rule_name T2 = codes "T2"
type_rule_name T3 = codes "T3"

-- each name that is bound is declared, and of any type
abbrev pub declared_dyn : Binding → Declaration
declared_dyn binding = record { name = binding.name; of = CelType.Dyn }

-- the declarations of an environment
abbrev pub declarations_of : Env → Decls
declarations_of env = map declared_dyn env

-- the line of a type or a fault
abbrev pub type_line : OrFault CelType → List ℕ
type_line (Ok t) = codes "type " ++ type_text t
type_line (Err fault) = codes "type fault " ++ (decimal fault.node ++ (32 ∷ type_rule_name fault.rule))
