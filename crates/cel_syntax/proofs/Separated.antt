-- Texts with separators between them, as they are written one after another.
use Rattle.std.proofs.Common.{◌≡◌, List, ℕ, Bool, true, false, [], ◌∷◌, ◌++◌, map, codes, cond, refl, ap, append-nil}
use Rattle.cel_values.specs.declared.expr.Expr.{Expr}
use Rattle.cel_syntax.specs.Print.{listed, texts_listed, printed}

-- the texts, each but the first behind a separator; the first too, if it stands behind another text
abbrev pub joined : Bool → List (List ℕ) → List ℕ
joined behind_another [] = []
joined behind_another (text ∷ texts) = cond behind_another (codes ", ") [] ++ (text ++ joined true texts)

first_text : (text : List ℕ) (texts : List (List ℕ)) → text ++ joined true texts ≡ texts_listed (text ∷ texts)
first_text text [] = append-nil text
first_text text (next ∷ texts) = ap (λ l. text ++ (codes ", " ++ l)) (first_text next texts)

pub joined_texts : (texts : List (List ℕ)) → joined false texts ≡ texts_listed texts
joined_texts [] = refl
joined_texts (text ∷ texts) = first_text text texts

abbrev pub text_of : Expr → List ℕ
text_of e = (printed e).text

first_item : (e : Expr) (es : List Expr) → text_of e ++ joined true (map text_of es) ≡ listed (map printed (e ∷ es))
first_item e [] = append-nil (text_of e)
first_item e (next ∷ es) = ap (λ l. text_of e ++ (codes ", " ++ l)) (first_item next es)

pub joined_items : (es : List Expr) → joined false (map text_of es) ≡ listed (map printed es)
joined_items [] = refl
joined_items (e ∷ es) = first_item e es
