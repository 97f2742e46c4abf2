-- Bindings read one by one are those of all that is written.
use Rattle.std.proofs.Common.{◌≡◌, List, ◌∷◌, Option, Some, None, option_map, option_and_then, refl}
use Rattle.serde_json.specs.Data.{Data, Items, no_items, item}
use Rattle.base_types.specs.Reading.{◌>>=◌}
use Rattle.json_text.specs.Arrays.{each, short_array, short_list}
use Rattle.allow_policy.specs.declared.binding.Binding.{Binding}
use Rattle.sts_admin.specs.Bindings.{written_binding, binding_of, binding_in, bindings_of}
use Rattle.sts_admin.specs.declared.bindings.WrittenBinding.{WrittenBinding}

none_after : {A B : Type 0} (o : Option A) → option_and_then {T = A} {U = B} (λ x. None) o ≡ None
none_after None = refl
none_after (Some x) = refl

first_and_more : (o : Option Binding) (os : Option (List Binding)) → option_and_then (λ x. option_map (λ xs. x ∷ xs) os) o ≡ o >>= (λ x. os >>= (λ xs. Some (x ∷ xs)))
first_and_more None os = refl
first_and_more (Some x) None = refl
first_and_more (Some x) (Some xs) = refl

one_more : (w : Option WrittenBinding) (ws : Option (List WrittenBinding)) → option_and_then (λ x. option_map (λ xs. x ∷ xs) (option_and_then bindings_of ws)) (option_and_then binding_of w) ≡ option_and_then bindings_of (option_and_then (λ x. option_map (λ xs. x ∷ xs) ws) w)
one_more None ws = refl
one_more (Some w) None = none_after (binding_of w)
one_more (Some w) (Some ws) = first_and_more (binding_of w) (bindings_of ws)

each_binding : (ds : Items) → each binding_in ds ≡ option_and_then bindings_of (each written_binding ds)
each_binding no_items = refl
each_binding (item d ds) = rw (each_binding ds) (one_more (written_binding d) (each written_binding ds))

of_items : (o : Option Items) → option_and_then (each binding_in) o ≡ option_and_then bindings_of (option_and_then (each written_binding) o)
of_items None = refl
of_items (Some ds) = each_binding ds

pub short_bindings : (d : Data) → short_list binding_in 64 d ≡ option_and_then bindings_of (short_list written_binding 64 d)
short_bindings d = of_items (short_array 64 d)
