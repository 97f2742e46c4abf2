-- What of an identity is too long.
use Rattle.std.specs.Prelude.{ℕ, List, [], ◌∷◌, ◌++◌, length, codes, Bool, ◌||◌, Option, None, Some, nat_lt, if◌then◌else◌}
use Rattle.std.specs.List.{list_any}
use Rattle.base_types.specs.Rules.{fails_if, first_of}
use Rattle.iam_names.specs.declared.identity.Identity.{Identity}
use Rattle.pools.specs.declared.fault.MapFault.{MapFault}
use Rattle.pools.specs.declared.fault.MapFault.TheVariants as fault

-- a group of over 256 bytes
abbrev pub is_long_group : List ℕ → Bool
is_long_group group = nat_lt 256 (length group)

-- over 64 groups, or a group that is too long
abbrev pub are_long_groups : List (List ℕ) → Bool
are_long_groups groups = nat_lt 64 (length groups) || list_any is_long_group groups

-- the first attribute of over 256 bytes
abbrev pub first_long_attribute : List (List ℕ × List ℕ) → Option MapFault
first_long_attribute [] = None
first_long_attribute (a ∷ more) = if nat_lt 256 (length a.1) then Some (fault.TooLong (codes "attribute." ++ a.0)) else first_long_attribute more

-- the first of subject, groups and attributes that is too long
abbrev pub first_long : Identity → Option MapFault
first_long who = first_of (
    fails_if (nat_lt 127 (length who.subject)) (fault.TooLong (codes "google.subject")) ∷
    fails_if (are_long_groups who.groups) (fault.TooLong (codes "google.groups")) ∷
    first_long_attribute who.attributes ∷ [])
