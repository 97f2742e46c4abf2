-- What a line asks for, and what it is answered.
use Rattle.std.specs.Prelude.{◌≡◌, ◌⊎◌, ℕ, List, [], ◌∷◌, ◌++◌, codes, Option, None, Some, option_map, option_and_then, Ok, Err, ⊤}
use Rattle.std.specs.Fmt.{decimal}
use Rattle.serde_json.specs.Data.{Data}
use Rattle.serde_json.specs.Find.{get, as_object}
use Rattle.json_text.specs.Document.{document, text_at}
use Rattle.cel_values.specs.declared.error.EvalError.{EvalError}
use Rattle.cel_values.specs.declared.error.EvalError.TheVariants as error
use Rattle.cel_values.specs.declared.expr.Expr.{Expr}
use Rattle.cel_builtins.specs.Outcomes.{Outcome}
use Rattle.cel_eval.specs.Denotation.{Env, denotation}
use Rattle.cel_types.specs.Typing.{checked}
use Rattle.cel_lines.specs.Environment.{bindings_of}
use Rattle.cel_lines.specs.TypeText.{declarations_of, type_line}
use Rattle.cel_lines.specs.ValueText.{value_text}
use Rattle.cel_grammar.specs.declared.error.SyntaxRule.{SyntaxRule}
use Rattle.cel_grammar.specs.declared.error.SyntaxRule.TheVariants.{S1, S2, S3, S4, S5, S6, L1, L2}
use Rattle.cel_syntax.specs.Parse.{Spells, HasNoSyntaxFault, IsFirstSyntaxFault}
use Rattle.cel_syntax.specs.Print.{printed_text}

-- ---- what is asked

-- an expression and the environment that its value is asked in
pub record Asked : Type 0 where
  pub expression : List ℕ
  pub env : Env

-- an environment is an object, and may be absent
abbrev pub environment_in : Option Data → Option Env
environment_in None = Some []
environment_in (Some member) = option_map bindings_of (as_object member)

-- both, where both are there
abbrev pub asked_with : Option (List ℕ) → Option Env → Option Asked
asked_with (Some expression) (Some env) = Some (record { expression = expression; env = env })
asked_with (Some expression) None = None
asked_with None env = None

-- the text `expr` of a JSON object, and its `env`
abbrev pub asked_of : Data → Option Asked
asked_of asked = asked_with (text_at (codes "expr") asked) (environment_in (get (codes "env") asked))

-- what a line asks for
abbrev pub asked : List ℕ → Option Asked
asked line = option_and_then asked_of (document line)

-- ---- what is answered

-- the name of a syntax rule
abbrev pub rule_name : SyntaxRule → List ℕ
rule_name S1 = codes "S1"
rule_name S2 = codes "S2"
rule_name S3 = codes "S3"
rule_name S4 = codes "S4"
rule_name S5 = codes "S5"
rule_name S6 = codes "S6"
rule_name L1 = codes "L1"
rule_name L2 = codes "L2"

-- the name of an error of evaluation
abbrev pub error_name : EvalError → List ℕ
error_name error.NoOverload = codes "NoOverload"
error_name error.NoKey = codes "NoKey"
error_name error.Index = codes "Index"
error_name error.Overflow = codes "Overflow"
error_name error.Divide = codes "Divide"
error_name error.BadText = codes "BadText"
error_name error.TooLong = codes "TooLong"
error_name error.Unbound = codes "Unbound"

-- the line of a value or an error
abbrev pub outcome_line : Outcome → List ℕ
outcome_line (Ok value) = codes "value " ++ value_text value
outcome_line (Err error) = codes "error " ++ error_name error

-- the line of the tree, that of its type, where each name of the environment may be of any type, and that of its value
abbrev pub tree_lines : Expr → Env → List ℕ
tree_lines tree env =
    codes "tree " ++ (printed_text tree ++ (10 ∷ (type_line (checked (declarations_of env) tree) ++ (10 ∷ outcome_line (denotation tree env)))))

-- the line of the first fault: its place and its rule
abbrev pub syntax_line : ℕ → SyntaxRule → List ℕ
syntax_line at rule = codes "syntax " ++ (decimal at ++ (32 ∷ rule_name rule))

-- the tree that the expression spells, its type and its value in the environment, or its first fault
abbrev pub AnswersExpression : List ℕ → Env → List ℕ → Type 0
AnswersExpression expression env text =
    ((tree : Expr) × Spells expression tree × HasNoSyntaxFault expression × (text ≡ tree_lines tree env))
    ⊎ ((at : ℕ) × (rule : SyntaxRule) × IsFirstSyntaxFault expression rule at × (text ≡ syntax_line at rule))

-- the answer to what is asked, or that the line asks for nothing
abbrev pub AnswersAsked : Option Asked → List ℕ → Type 0
AnswersAsked None text = text ≡ codes "bad line"
AnswersAsked (Some asked) text = AnswersExpression asked.expression asked.env text

-- the text is the answer to the line
abbrev pub Answers : List ℕ → List ℕ → Type 0
Answers line text = AnswersAsked (asked line) text

-- the answers to these lines, in order
abbrev pub AreAnswers : List (List ℕ) → List (List ℕ) → Type 0
AreAnswers [] [] = ⊤
AreAnswers [] (text ∷ texts) = ⊥
AreAnswers (line ∷ lines) [] = ⊥
AreAnswers (line ∷ lines) (text ∷ texts) = Answers line text × AreAnswers lines texts

-- an answer stands behind the others, and its line feed
abbrev pub AppendsAnswer : List ℕ → List ℕ → List ℕ → Type 0
AppendsAnswer line before after = (text : List ℕ) × Answers line text × (after ≡ before ++ (text ++ (10 ∷ [])))
