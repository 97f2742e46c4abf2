-- How tokens are spelled.
use Rattle.std.specs.Prelude.{ℕ, List, [], ◌∷◌, ◌++◌, nat_eq, if◌then◌else◌, codes}
use Rattle.cel_values.specs.declared.expr.BinaryOp.{BinaryOp}
use Rattle.cel_values.specs.declared.expr.BinaryOp.TheVariants.{Or, And, Lt, Le, Gt, Ge, Eq, Ne, Within, Add, Sub, Mul, Div, Rem}

-- ---- texts

-- a byte between double quotes
abbrev pub quoted_byte : ℕ → List ℕ
quoted_byte b =
    if nat_eq b 92 then 92 ∷ 92 ∷ [] else if nat_eq b 34 then 92 ∷ 34 ∷ [] else
    if nat_eq b 10 then 92 ∷ 110 ∷ [] else if nat_eq b 13 then 92 ∷ 114 ∷ [] else
    if nat_eq b 9 then 92 ∷ 116 ∷ [] else b ∷ []

-- the bytes of a text between double quotes
abbrev pub quoted_bytes : List ℕ → List ℕ
quoted_bytes [] = []
quoted_bytes (b ∷ bs) = quoted_byte b ++ quoted_bytes bs

-- a text in double quotes, with the escapes that it needs
abbrev pub quoted : List ℕ → List ℕ
quoted text = 34 ∷ (quoted_bytes text ++ (34 ∷ []))

-- ---- operators

-- how an operator of two operands is written
abbrev pub operator : BinaryOp → List ℕ
operator Or = codes "||"
operator And = codes "&&"
operator Lt = codes "<"
operator Le = codes "<="
operator Gt = codes ">"
operator Ge = codes ">="
operator Eq = codes "=="
operator Ne = codes "!="
operator Within = codes "in"
operator Add = codes "+"
operator Sub = codes "-"
operator Mul = codes "*"
operator Div = codes "/"
operator Rem = codes "%"
