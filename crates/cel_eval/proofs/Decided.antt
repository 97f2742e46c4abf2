-- What operators and choices mean, by the outcomes of their parts.
use Rattle.std.proofs.Common.{◌≡◌, Bool, true, false, Ok, Err, cond, refl, sym, ap, ◌∙◌}
use Rattle.cel_values.specs.declared.error.EvalError.{EvalError}
use Rattle.cel_values.specs.declared.expr.BinaryOp.{BinaryOp}
use Rattle.cel_values.specs.declared.expr.BinaryOp.TheVariants as the
use Rattle.cel_values.specs.declared.expr.Expr.{Expr}
use Rattle.cel_values.specs.declared.expr.Expr.TheViews as expr
use Rattle.cel_values.specs.declared.expr.Expr.TheOpen.{Expr-F}
use Rattle.cel_values.specs.declared.expr.Expr.TheFolds.{fold-roll-Expr}
use Rattle.cel_values.specs.declared.expr.Expr.TheVariants as tree
use Rattle.cel_values.specs.declared.value.Value.{Value}
use Rattle.cel_builtins.specs.Outcomes.{Or, Outcome, ◌>>=◌}
use Rattle.cel_eval.specs.Denotation.{Env, Meaning, PairMeaning, meaning_step, pair_step, denotation, tested, said, both, either, binary, binary_by, chosen, strict}
use Rattle.cel_eval.specs.Laws.{IsStrict}

den_binary : (op : BinaryOp) (a b : Expr) (env : Env) → denotation (expr.Binary op a b) env ≡ binary op (denotation a env) (denotation b env)
den_binary op a b env = ap (λ x. denotation x env) (sym (tree.rolls-Binary op a b)) ∙ ap (λ m. m env) (fold-roll-Expr Meaning PairMeaning meaning_step pair_step (Expr-F.Binary op a b))

den_choice : (c a b : Expr) (env : Env) → denotation (expr.Cond c a b) env ≡ chosen (denotation c env) (denotation a env) (denotation b env)
den_choice c a b env = ap (λ x. denotation x env) (sym (tree.rolls-Cond c a b)) ∙ ap (λ m. m env) (fold-roll-Expr Meaning PairMeaning meaning_step pair_step (Expr-F.Cond c a b))

right_false : (a b : Or Bool) → b ≡ Ok false → both a b ≡ Ok false
right_false (Ok true) b h = h
right_false (Ok false) b h = refl
right_false (Err e) b h = ap (both (Err e)) h

right_true : (a b : Or Bool) → b ≡ Ok true → either a b ≡ Ok true
right_true (Ok true) b h = refl
right_true (Ok false) b h = h
right_true (Err e) b h = ap (either (Err e)) h

pub false_left : (a b : Expr) (env : Env) → tested (denotation a env) ≡ Ok false → denotation (expr.Binary the.And a b) env ≡ Ok (Value.Bool false)
false_left a b env h = den_binary the.And a b env ∙ ap (λ t. said (both t (tested (denotation b env)))) h

pub false_right : (a b : Expr) (env : Env) → tested (denotation b env) ≡ Ok false → denotation (expr.Binary the.And a b) env ≡ Ok (Value.Bool false)
false_right a b env h = den_binary the.And a b env ∙ ap said (right_false (tested (denotation a env)) (tested (denotation b env)) h)

pub true_left : (a b : Expr) (env : Env) → tested (denotation a env) ≡ Ok true → denotation (expr.Binary the.Or a b) env ≡ Ok (Value.Bool true)
true_left a b env h = den_binary the.Or a b env ∙ ap (λ t. said (either t (tested (denotation b env)))) h

pub true_right : (a b : Expr) (env : Env) → tested (denotation b env) ≡ Ok true → denotation (expr.Binary the.Or a b) env ≡ Ok (Value.Bool true)
true_right a b env h = den_binary the.Or a b env ∙ ap said (right_true (tested (denotation a env)) (tested (denotation b env)) h)

pub first_branch : (c a b : Expr) (env : Env) → tested (denotation c env) ≡ Ok true → denotation (expr.Cond c a b) env ≡ denotation a env
first_branch c a b env h = den_choice c a b env ∙ ap (λ t. t >>= λ v. cond v (denotation a env) (denotation b env)) h

pub second_branch : (c a b : Expr) (env : Env) → tested (denotation c env) ≡ Ok false → denotation (expr.Cond c a b) env ≡ denotation b env
second_branch c a b env h = den_choice c a b env ∙ ap (λ t. t >>= λ v. cond v (denotation a env) (denotation b env)) h

strict_binary : (op : BinaryOp) (a b : Outcome) → IsStrict op → binary op a b ≡ (a >>= λ x. b >>= λ y. strict op x y)
strict_binary op a b h = ap (λ l. binary_by l op a b) h

pub left_error : (op : BinaryOp) (a b : Expr) (env : Env) (error : EvalError) → IsStrict op → denotation a env ≡ Err error → denotation (expr.Binary op a b) env ≡ Err error
left_error op a b env error s h =
    den_binary op a b env ∙ strict_binary op (denotation a env) (denotation b env) s
    ∙ ap (λ t. t >>= λ x. denotation b env >>= λ y. strict op x y) h

pub right_error : (op : BinaryOp) (a b : Expr) (env : Env) (error : EvalError) (v : Value) → IsStrict op → denotation a env ≡ Ok v → denotation b env ≡ Err error → denotation (expr.Binary op a b) env ≡ Err error
right_error op a b env error v s h k =
    den_binary op a b env ∙ strict_binary op (denotation a env) (denotation b env) s
    ∙ ap (λ t. t >>= λ x. denotation b env >>= λ y. strict op x y) h ∙ ap (λ t. t >>= λ y. strict op v y) k
