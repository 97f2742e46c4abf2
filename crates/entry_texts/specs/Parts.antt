-- The entry whose parts stand in a tree, each of its form.
use Rattle.std.specs.Prelude.{ℕ, ◌^◌, Bool, ◌&&◌, List, length, Option, None, Some, option_map, option_and_then, nat_le, nat_lt, if◌then◌else◌, codes}
use Rattle.std.specs.Result.{result_ok}
use Rattle.std.specs.Str.{bytes_eq}
use Rattle.base_types.specs.Forms.{passing}
use Rattle.base_types.specs.Reading.{◌>>=◌}
use Rattle.serde_json.specs.Data.{Data}
use Rattle.serde_json.specs.Find.{get}
use Rattle.json_text.specs.Arrays.{list_at}
use Rattle.json_text.specs.Document.{text_at, whole_number_at}
use Rattle.iam_names.specs.Cuts.{cut_at}
use Rattle.iam_names.specs.Forms.{is_id}
use Rattle.iam_names.specs.PoolName.{pool_of}
use Rattle.iam_names.specs.declared.audience.Audience.{Audience}
use Rattle.boundary.specs.declared.rules.Boundary.{Boundary}
use Rattle.boundary.specs.Written.{listed_boundary}
use Rattle.access_token.specs.Parts.{formed, account_in, scope_in}
use Rattle.sts_admin.specs.Commands.{command_of}
use Rattle.links.specs.declared.entry.Entry.{Entry}
use Rattle.links.specs.declared.entry.Entry.TheVariants.{Put, Federated, Narrow, Impersonate, Delegate}
use Rattle.links.specs.declared.entry.Exchange.{Exchange}
use Rattle.links.specs.declared.entry.Narrowing.{Narrowing}
use Rattle.links.specs.declared.entry.Impersonation.{Impersonation}
use Rattle.links.specs.declared.entry.Delegation.{Delegation}

-- ---- the parts

-- seconds up to 200,000,000,000
abbrev pub is_moment : ℕ → Bool
is_moment seconds = nat_le seconds 200_000_000_000

-- the moment under `at`
abbrev pub moment_in : Data → Option ℕ
moment_in d = formed is_moment (whole_number_at (codes "at") d)

-- the number of a link, below 2^32
abbrev pub is_link_number : ℕ → Bool
is_link_number number = nat_lt number (2 ^ 32)

-- the number of a link under a name
abbrev pub link_number_in : List ℕ → Data → Option ℕ
link_number_in name d = formed is_link_number (whole_number_at name d)

-- 1 to 3,600 seconds
abbrev pub is_lifetime : ℕ → Bool
is_lifetime seconds = nat_le 1 seconds && nat_le seconds 3600

-- the seconds under `lifetime`
abbrev pub lifetime_in : Data → Option ℕ
lifetime_in d = formed is_lifetime (whole_number_at (codes "lifetime") d)

-- the scope words under `scope`
abbrev pub words_at : Data → Option (List (List ℕ))
words_at d = option_and_then scope_in (get (codes "scope") d)

-- the provider of a text PROJECT/POOL/PROVIDER
unfoldable pub provider_of_text : List ℕ → Option Audience
provider_of_text text = do
  first ← cut_at 47 text
  second ← cut_at 47 first.1
  pool ← pool_of first.0 second.0
  provider ← passing is_id second.1
  Some (record { pool = pool; provider = provider })

-- the provider under `provider`
abbrev pub provider_in : Data → Option Audience
provider_in d = option_and_then provider_of_text (text_at (codes "provider") d)

-- the boundary of a member that may be absent
abbrev pub boundary_of : Option Data → Option (Option Boundary)
boundary_of None = Some None
boundary_of (Some d) = option_map Some (listed_boundary d)

-- the boundary under `boundary`
abbrev pub boundary_in : Data → Option (Option Boundary)
boundary_in d = boundary_of (get (codes "boundary") d)

-- from one to five
abbrev pub are_one_to_five : List (List ℕ) → Bool
are_one_to_five accounts = nat_le 1 (length accounts) && nat_le (length accounts) 5

-- the service accounts under `accounts`
abbrev pub accounts_in : Data → Option (List (List ℕ))
accounts_in d = formed are_one_to_five (list_at account_in (codes "accounts") d)

-- ---- the entries

-- an exchange
unfoldable pub exchange_in : Data → Option Exchange
exchange_in d = do
  at ← moment_in d
  provider ← provider_in d
  scope ← words_at d
  token ← text_at (codes "token") d
  Some (record { provider = provider; token = token; scope = scope; at = at })

-- a narrowing
unfoldable pub narrowing_in : Data → Option Narrowing
narrowing_in d = do
  at ← moment_in d
  boundary ← boundary_in d
  parent ← link_number_in (codes "parent") d
  scope ← words_at d
  Some (record { parent = parent; boundary = boundary; scope = scope; at = at })

-- an impersonation
unfoldable pub impersonation_in : Data → Option Impersonation
impersonation_in d = do
  accounts ← accounts_in d
  at ← moment_in d
  lifetime ← lifetime_in d
  parent ← link_number_in (codes "parent") d
  scope ← words_at d
  Some (record { parent = parent; accounts = accounts; scope = scope; lifetime = lifetime; at = at })

-- a delegation
unfoldable pub delegation_in : Data → Option Delegation
delegation_in d = do
  actor ← link_number_in (codes "actor") d
  at ← moment_in d
  scope ← words_at d
  subject ← link_number_in (codes "subject") d
  Some (record { subject = subject; actor = actor; scope = scope; at = at })

-- the entry of a kind: what is no link's is a command's
unfoldable pub entry_of_kind : List ℕ → Data → Option Entry
entry_of_kind kind d =
    if bytes_eq kind (codes "federated") then option_map Federated (exchange_in d)
    else (if bytes_eq kind (codes "narrow") then option_map Narrow (narrowing_in d)
    else (if bytes_eq kind (codes "impersonate") then option_map Impersonate (impersonation_in d)
    else (if bytes_eq kind (codes "delegate") then option_map Delegate (delegation_in d)
    else option_map Put (result_ok (command_of d)))))

-- the entry of a tree
abbrev pub entry_in : Data → Option Entry
entry_in d = option_and_then (λ kind. entry_of_kind kind d) (text_at (codes "kind") d)
