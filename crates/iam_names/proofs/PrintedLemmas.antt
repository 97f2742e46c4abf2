-- Printing what was read gives the text back.
use Rattle.std.proofs.Common.{◌≡◌, ℕ, List, ◌∷◌, ◌++◌, Bool, true, false, ◌&&◌, cond, Option, Some, None, Result, Ok, Err, option_map, codes, IfOk, ◌⊎◌, inl, inr, ⊎_elim, refl, ap, ap₂, sym, ◌∙◌, append_assoc}
use Rattle.std.specs.Option.{option_map_or}
use Rattle.std.specs.Str.{bytes_eq}
use Rattle.std.proofs.lemmas.Slice.Eq.{bytes_eq-Decides}
use Rattle.base_types.specs.Forms.{has_size, passing}
use Rattle.base_types.specs.Reading.{◌>>=◌}
use Rattle.iam_names.specs.Cuts.{after, cut_at}
use Rattle.iam_names.specs.Forms.{is_project, is_id, is_account, is_attribute_name}
use Rattle.iam_names.specs.Reads.{ReadsName}
use Rattle.iam_names.specs.Parts.{path_parts, subject_at, provider_at}
use Rattle.iam_names.specs.PoolName.{pool_of, pool_of_text, pool_text, pool_path}
use Rattle.iam_names.specs.Audience.{audience_of, audience_text}
use Rattle.iam_names.specs.Member.{member_of, member_text, principal_of, set_of, set_in, attribute_of}
use Rattle.iam_names.specs.declared.fault.NameError.{NameError}
use Rattle.iam_names.specs.declared.pool_name.PoolName.{PoolName}
use Rattle.iam_names.specs.declared.audience.Audience.{Audience}
use Rattle.iam_names.specs.declared.member.Member.{Member}
use Rattle.iam_names.specs.declared.member.Member.TheVariants.{Principal, Group, Attribute, Pool, Account}
use Rattle.iam_names.proofs.CutLemmas.{after-sound, cut_at-sound}

pub if_read : {X : Type 0} (r : Result X NameError) (there : Option X) (P : X → Type 0) → ReadsName r there → ((x : X) → there ≡ Some x → P x) → IfOk r P
if_read (Ok x) there P h all = all x h
if_read (Err e) there P h all = tt

-- both steps answered
pub bound : {A B : Type 0} (o : Option A) (f : A → Option B) (b : B) → (o >>= f) ≡ Some b → (a : A) × (o ≡ Some a) × (f a ≡ Some b)
bound None f b h = cc
bound (Some a) f b h = (a, refl, h)

same_value : {A : Type 0} (a b : A) → ◌≡◌ (Some a) (Some b) → a ≡ b
same_value a b h = cc

pub passed : {A : Type 0} (test : A → Bool) (a b : A) → passing test a ≡ Some b → a ≡ b
passed test a b h = by_test (test a) h
  where
    by_test : (t : Bool) → cond t (Some a) None ≡ Some b → a ≡ b
    by_test true g = same_value a b g
    by_test false g = cc

pub pool_of-sound : (project pool : List ℕ) (name : PoolName) → pool_of project pool ≡ Some name → record { project = project; pool = pool } ≡ name
pool_of-sound project pool name h = by_test (is_project project && is_id pool) h
  where
    by_test : (t : Bool) → cond t (Some (record { project = project; pool = pool })) None ≡ Some name → record { project = project; pool = pool } ≡ name
    by_test true g = same_value _ name g
    by_test false g = cc

pub pool_text-sound : (text : List ℕ) (name : PoolName) → pool_of_text text ≡ Some name → pool_text name ≡ text
pool_text-sound text name h =
    let step = bound (cut_at 47 text) (λ parts. pool_of parts.0 parts.1) name h in
    ap pool_text (sym (pool_of-sound step.0.0 step.0.1 name step.2)) ∙ sym (cut_at-sound 47 text step.0 step.1)

-- a path between two fronts
path_between : (f g text : List ℕ) (path : List ℕ × List ℕ × List ℕ) → ((after f text >>= cut_at 47) >>= (λ project. (after g project.1 >>= cut_at 47) >>= (λ pool. Some (project.0, pool.0, pool.1)))) ≡ Some path
    → text ≡ f ++ (path.0 ++ 47 ∷ (g ++ (path.1 ++ 47 ∷ path.2)))
path_between f g text path h =
    let first = bound (after f text >>= cut_at 47) (λ project. (after g project.1 >>= cut_at 47) >>= (λ pool. Some (project.0, pool.0, pool.1))) path h in
    let project = first.0 in
    let front = bound (after f text) (cut_at 47) project first.1 in
    let second = bound (after g project.1 >>= cut_at 47) (λ pool. Some (project.0, pool.0, pool.1)) path first.2 in
    let pool = second.0 in
    let middle = bound (after g project.1) (cut_at 47) pool second.1 in
    let is : ◌≡◌ {A = List ℕ × List ℕ × List ℕ} (project.0, pool.0, pool.1) path = same_value {A = List ℕ × List ℕ × List ℕ} (project.0, pool.0, pool.1) path second.2 in
    let a : text ≡ f ++ front.0 = after-sound f text front.0 front.1 in
    let b : front.0 ≡ project.0 ++ 47 ∷ project.1 = cut_at-sound 47 front.0 project front.2 in
    let c : project.1 ≡ g ++ middle.0 = after-sound g project.1 middle.0 middle.1 in
    let d : middle.0 ≡ pool.0 ++ 47 ∷ pool.1 = cut_at-sound 47 middle.0 pool middle.2 in
    a ∙ ap (λ (l : List ℕ). f ++ l) (b ∙ ap (λ (l : List ℕ). project.0 ++ 47 ∷ l) (c ∙ ap (λ (l : List ℕ). g ++ l) d))
    ∙ ap (λ (p : List ℕ × List ℕ × List ℕ). f ++ (p.0 ++ 47 ∷ (g ++ (p.1 ++ 47 ∷ p.2)))) is

regroup : (f a g b rest : List ℕ) → f ++ (a ++ 47 ∷ (g ++ (b ++ 47 ∷ rest))) ≡ (f ++ (a ++ 47 ∷ (g ++ b))) ++ 47 ∷ rest
regroup f a g b rest = rw (append_assoc f, append_assoc a, append_assoc g) refl

pub path_regroup : (name : PoolName) (rest : List ℕ) → codes "iam.googleapis.com/projects/" ++ (name.project ++ 47 ∷ (codes "locations/global/workloadIdentityPools/" ++ (name.pool ++ 47 ∷ rest))) ≡ pool_path name ++ 47 ∷ rest
path_regroup name rest = regroup (codes "iam.googleapis.com/projects/") name.project (codes "locations/global/workloadIdentityPools/") name.pool rest

-- a text that begins with a pool's path and a slash
pub path_parts-sound : (text : List ℕ) (path : List ℕ × List ℕ × List ℕ) (pool : PoolName) → path_parts text ≡ Some path → pool_of path.0 path.1 ≡ Some pool → text ≡ pool_path pool ++ 47 ∷ path.2
path_parts-sound text path pool h of =
    path_between (codes "iam.googleapis.com/projects/") (codes "locations/global/workloadIdentityPools/") text path h
    ∙ path_regroup (record { project = path.0; pool = path.1 }) path.2
    ∙ ap (λ (name : PoolName). pool_path name ++ 47 ∷ path.2) (pool_of-sound path.0 path.1 pool of)

-- what passes behind a front
behind : (front text found : List ℕ) (test : List ℕ → Bool) → (after front text >>= passing test) ≡ Some found → text ≡ front ++ found
behind front text found test h =
    let step = bound (after front text) (passing test) found h in
    after-sound front text step.0 step.1 ∙ ap (λ (l : List ℕ). front ++ l) (passed test step.0 found step.2)

pub audience_text-sound : (text : List ℕ) (name : Audience) → audience_of text ≡ Some name → audience_text name ≡ text
audience_text-sound text name h =
    let first = bound (after (codes "//") text >>= path_parts) _ name h in
    let path = first.0 in
    let front = bound (after (codes "//") text) path_parts path first.1 in
    let second = bound (pool_of path.0 path.1) _ name first.2 in
    let third = bound (provider_at path.2) (λ provider. Some (record { pool = second.0; provider = provider })) name second.2 in
    let is : record { pool = second.0; provider = third.0 } ≡ name = same_value (record { pool = second.0; provider = third.0 }) name third.2 in
    let whole : text ≡ codes "//" ++ front.0 = after-sound (codes "//") text front.0 front.1 in
    let begins : front.0 ≡ pool_path second.0 ++ 47 ∷ path.2 = path_parts-sound front.0 path second.0 front.2 second.1 in
    let ends : path.2 ≡ codes "providers/" ++ third.0 = behind (codes "providers/") path.2 third.0 is_id third.1 in
    ap audience_text (sym is) ∙ sym (whole ∙ ap (λ (l : List ℕ). codes "//" ++ l) (begins ∙ ap (λ (l : List ℕ). pool_path second.0 ++ 47 ∷ l) ends))

-- ---- members

choice : {M : Type 0} (f : List ℕ → Option M) (o : Option (List ℕ)) (other : Option M) (m : M) → option_map_or f o other ≡ Some m → ((rest : List ℕ) × (o ≡ Some rest) × (f rest ≡ Some m)) ⊎ (other ≡ Some m)
choice f None other m h = inr h
choice f (Some rest) other m h = inl (rest, refl, h)

mapped : {A B : Type 0} (f : A → B) (o : Option A) (b : B) → option_map f o ≡ Some b → (a : A) × (o ≡ Some a) × (f a ≡ b)
mapped f None b h = cc
mapped f (Some a) b h = (a, refl, same_value (f a) b h)

principal-sound : (text : List ℕ) (m : Member) → principal_of text ≡ Some m → member_text m ≡ codes "principal://" ++ text
principal-sound text m h =
    let first = bound (path_parts text) _ m h in
    let path = first.0 in
    let second = bound (pool_of path.0 path.1) _ m first.2 in
    let third = bound (subject_at path.2) (λ subject. Some (Principal second.0 subject)) m second.2 in
    let is : Principal second.0 third.0 ≡ m = same_value (Principal second.0 third.0) m third.2 in
    let begins : text ≡ pool_path second.0 ++ 47 ∷ path.2 = path_parts-sound text path second.0 first.1 second.1 in
    let ends : path.2 ≡ codes "subject/" ++ third.0 = behind (codes "subject/") path.2 third.0 (has_size 1 127) third.1 in
    ap member_text (sym is) ∙ sym (ap (λ (l : List ℕ). codes "principal://" ++ l) (begins ∙ ap (λ (l : List ℕ). pool_path second.0 ++ 47 ∷ l) ends))

attribute-sound : (pool : PoolName) (text : List ℕ) (m : Member) → attribute_of pool text ≡ Some m → member_text m ≡ codes "principalSet://" ++ (pool_path pool ++ 47 ∷ (codes "attribute." ++ text))
attribute-sound pool text m h =
    let cut = bound (cut_at 47 text) _ m h in
    let named = bound (passing is_attribute_name cut.0.0) _ m cut.2 in
    let valued = bound (passing (has_size 1 256) cut.0.1) (λ value. Some (Attribute pool named.0 value)) m named.2 in
    let is : Attribute pool named.0 valued.0 ≡ m = same_value (Attribute pool named.0 valued.0) m valued.2 in
    let split : text ≡ cut.0.0 ++ 47 ∷ cut.0.1 = cut_at-sound 47 text cut.0 cut.1 in
    let name : cut.0.0 ≡ named.0 = passed is_attribute_name cut.0.0 named.0 named.1 in
    let value : cut.0.1 ≡ valued.0 = passed (has_size 1 256) cut.0.1 valued.0 valued.1 in
    ap member_text (sym is) ∙ sym (ap (λ (l : List ℕ). codes "principalSet://" ++ (pool_path pool ++ 47 ∷ (codes "attribute." ++ l))) (split ∙ ap₂ (λ (a b : List ℕ). a ++ 47 ∷ b) name value))

whole_set-sound : (pool : PoolName) (text : List ℕ) (m : Member) → cond (bytes_eq text (codes "*")) (Some (Pool pool)) None ≡ Some m → member_text m ≡ codes "principalSet://" ++ (pool_path pool ++ 47 ∷ text)
whole_set-sound pool text m h = by_test (bytes_eq text (codes "*")) refl h
  where
    by_test : (t : Bool) → bytes_eq text (codes "*") ≡ t → cond t (Some (Pool pool)) None ≡ Some m → member_text m ≡ codes "principalSet://" ++ (pool_path pool ++ 47 ∷ text)
    by_test true e g =
        let star : text ≡ codes "*" = (bytes_eq-Decides text (codes "*")).0 e in
        ap member_text (sym (same_value (Pool pool) m g)) ∙ ap (λ (l : List ℕ). codes "principalSet://" ++ (pool_path pool ++ 47 ∷ l)) (sym star)
    by_test false e g = cc

set_in-sound : (pool : PoolName) (text : List ℕ) (m : Member) → set_in pool text ≡ Some m → member_text m ≡ codes "principalSet://" ++ (pool_path pool ++ 47 ∷ text)
set_in-sound pool text m h =
    ⊎_elim
    (λ group.
    let found = mapped (Group pool) (passing (has_size 1 256) group.0) m group.2 in
    let is : group.0 ≡ found.0 = passed (has_size 1 256) group.0 found.0 found.1 in
    let split : text ≡ codes "group/" ++ found.0 = after-sound (codes "group/") text group.0 group.1 ∙ ap (λ (l : List ℕ). codes "group/" ++ l) is in
    ap member_text (sym found.2) ∙ ap (λ (l : List ℕ). codes "principalSet://" ++ (pool_path pool ++ 47 ∷ l)) (sym split))
    (λ rest. ⊎_elim
    (λ attribute.
    let split : text ≡ codes "attribute." ++ attribute.0 = after-sound (codes "attribute.") text attribute.0 attribute.1 in
    attribute-sound pool attribute.0 m attribute.2 ∙ ap (λ (l : List ℕ). codes "principalSet://" ++ (pool_path pool ++ 47 ∷ l)) (sym split))
    (whole_set-sound pool text m)
    (choice (attribute_of pool) (after (codes "attribute.") text) _ m rest))
    (choice (λ group. option_map (Group pool) (passing (has_size 1 256) group)) (after (codes "group/") text) _ m h)

set-sound : (text : List ℕ) (m : Member) → set_of text ≡ Some m → member_text m ≡ codes "principalSet://" ++ text
set-sound text m h =
    let first = bound (path_parts text) _ m h in
    let path = first.0 in
    let second = bound (pool_of path.0 path.1) (λ pool. set_in pool path.2) m first.2 in
    let begins : text ≡ pool_path second.0 ++ 47 ∷ path.2 = path_parts-sound text path second.0 first.1 second.1 in
    set_in-sound second.0 path.2 m second.2 ∙ ap (λ (l : List ℕ). codes "principalSet://" ++ l) (sym begins)

pub member_text-sound : (text : List ℕ) (m : Member) → member_of text ≡ Some m → member_text m ≡ text
member_text-sound text m h =
    ⊎_elim
    (λ principal. principal-sound principal.0 m principal.2 ∙ sym (after-sound (codes "principal://") text principal.0 principal.1))
    (λ rest. ⊎_elim
    (λ set. set-sound set.0 m set.2 ∙ sym (after-sound (codes "principalSet://") text set.0 set.1))
    (λ last. ⊎_elim
    (λ account.
    let found = mapped Account (passing is_account account.0) m account.2 in
    let is : account.0 ≡ found.0 = passed is_account account.0 found.0 found.1 in
    ap member_text (sym found.2) ∙ ap (λ (l : List ℕ). codes "serviceAccount:" ++ l) (sym is) ∙ sym (after-sound (codes "serviceAccount:") text account.0 account.1))
    (λ none. cc)
    (choice (λ account. option_map Account (passing is_account account)) (after (codes "serviceAccount:") text) None m last))
    (choice set_of (after (codes "principalSet://") text) _ m rest))
    (choice principal_of (after (codes "principal://") text) _ m h)
