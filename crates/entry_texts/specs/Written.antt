-- The text by which a journal holds an entry.
use Rattle.std.specs.Prelude.{ℕ, List, ◌++◌, option_map, codes}
use Rattle.serde_json.specs.Data.{Data, number, unsigned, string, object, no_members, member}
use Rattle.serde_json.specs.Written.{compact_text}
use Rattle.iam_names.specs.declared.audience.Audience.{Audience}
use Rattle.boundary.specs.Written.{optional, boundary_data}
use Rattle.access_token.specs.Payload.{texts, words_text}
use Rattle.command_texts.specs.Written.{command_data}
use Rattle.links.specs.declared.entry.Entry.{Entry}
use Rattle.links.specs.declared.entry.Entry.TheVariants.{Put, Federated, Narrow, Impersonate, Delegate}
use Rattle.links.specs.declared.entry.Exchange.{Exchange}
use Rattle.links.specs.declared.entry.Narrowing.{Narrowing}
use Rattle.links.specs.declared.entry.Impersonation.{Impersonation}
use Rattle.links.specs.declared.entry.Delegation.{Delegation}

-- a provider as PROJECT/POOL/PROVIDER
abbrev pub provider_text : Audience → List ℕ
provider_text name = name.pool.project ++ (codes "/" ++ (name.pool.pool ++ (codes "/" ++ name.provider)))

-- a subject token of a provider that became an access token
unfoldable pub exchange_data : Exchange → Data
exchange_data x = object (
    member (codes "at") (number (unsigned x.at)) (
    member (codes "kind") (string (codes "federated")) (
    member (codes "provider") (string (provider_text x.provider)) (
    member (codes "scope") (string (words_text x.scope)) (
    member (codes "token") (string x.token) no_members)))))

-- an access token that became a narrower one, with its boundary where it has one
unfoldable pub narrowing_data : Narrowing → Data
narrowing_data x = object (
    member (codes "at") (number (unsigned x.at)) (
    optional (codes "boundary") (option_map boundary_data x.boundary) (
    member (codes "kind") (string (codes "narrow")) (
    member (codes "parent") (number (unsigned x.parent)) (
    member (codes "scope") (string (words_text x.scope)) no_members)))))

-- an access token that became one of a service account
unfoldable pub impersonation_data : Impersonation → Data
impersonation_data x = object (
    member (codes "accounts") (texts x.accounts) (
    member (codes "at") (number (unsigned x.at)) (
    member (codes "kind") (string (codes "impersonate")) (
    member (codes "lifetime") (number (unsigned x.lifetime)) (
    member (codes "parent") (number (unsigned x.parent)) (
    member (codes "scope") (string (words_text x.scope)) no_members))))))

-- two access tokens that became one by which the actor acts for the subject
unfoldable pub delegation_data : Delegation → Data
delegation_data x = object (
    member (codes "actor") (number (unsigned x.actor)) (
    member (codes "at") (number (unsigned x.at)) (
    member (codes "kind") (string (codes "delegate")) (
    member (codes "scope") (string (words_text x.scope)) (
    member (codes "subject") (number (unsigned x.subject)) no_members)))))

-- an entry as a JSON object
abbrev pub entry_data : Entry → Data
entry_data (Put command) = command_data command
entry_data (Federated x) = exchange_data x
entry_data (Narrow x) = narrowing_data x
entry_data (Impersonate x) = impersonation_data x
entry_data (Delegate x) = delegation_data x

-- its text
unfoldable pub entry_text : Entry → List ℕ
entry_text e = compact_text (entry_data e)
