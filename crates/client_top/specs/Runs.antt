-- What a run read, what its workers were leased, and what it wrote.
use Rattle.std.specs.Prelude.{◌≡◌, ◌≤◌, ℕ, ◌+◌, ◌-◌, ◌^◌, min, List, length, Option, Ok}
use Rattle.std.specs.List.{flat_map}
use Rattle.std.specs.Io.KnownBytes.{Appends, Consumes, IsAtEnd}
use Rattle.wif_base.specs.Output.{IsProperPart}
use Rattle.wif_base.specs.Whole.{IsReadWhole}
use Rattle.client_link.specs.declared.target.LinkCall.{LinkCall}
use Rattle.client_proto.specs.ClientFile.{client_of}
use Rattle.client_proto.specs.declared.config.ClientConfig.{ClientConfig}
use Rattle.client_proto.specs.declared.fault.ConfigFault.{ConfigFault}
use Rattle.client_proto.specs.declared.fault.ConfigFault.TheVariants as config
use Rattle.renewer.specs.Histories.{NoWaste}
use Rattle.renewer.specs.Leases.{TellsMore}
use Rattle.renewer.specs.Renewed.{Renewed}
use Rattle.renewer.specs.declared.renewal.Renewal.{Renewal}
use Rattle.shared_renewer.specs.Failures.{failed_calls}
use Rattle.client_top.specs.Asks.{AreAsks, NoAsks, moments_by}
use Rattle.client_top.specs.Outcomes.{AreOutcomes, how_many, is_link, is_reply}
use Rattle.client_top.specs.Report.{report_text}
use Rattle.client_top.specs.declared.asks.Ask.{Ask}
use Rattle.client_top.specs.declared.outcome.Outcome.{Outcome}
use Rattle.client_top.specs.declared.unready.Unready.{Unready}
use Rattle.client_top.specs.declared.unready.Unready.TheVariants as unready
use Rattle.client_top.specs.declared.words.Run.{Run}

-- ---- the client's file

-- how many bytes the file has at most
abbrev pub file_limit : ℕ
file_limit = 65536

-- The file is of its size, and says this client.
pub record IsClientFile (bytes : List ℕ) (client : ClientConfig) : Type 0 where
  pub size : length bytes ≤ file_limit
  pub says : client_of bytes ≡ Ok client

-- bytes that are no client's file
abbrev pub NoClientFile : List ℕ → Type 0
NoClientFile bytes = (client : ClientConfig) → IsClientFile bytes client → ⊥

-- The file that was read says this client.
pub record ReadsClient (left left' : Option (List ℕ)) (client : ClientConfig) : Type 0 where
  pub bytes : List ℕ
  pub read : IsReadWhole file_limit left left' bytes
  pub is : IsClientFile bytes client

-- What was read is no client's file.
pub record ReadsNoClient (left left' : Option (List ℕ)) : Type 0 where
  pub bytes : List ℕ
  pub read : IsReadWhole file_limit left left' bytes
  pub none : NoClientFile bytes

-- why there is no client, by what reading its file gave
abbrev pub unready_of : ConfigFault → Unready
unready_of config.Json = unready.NoClient
unready_of (config.Field member) = unready.NoClient
unready_of (config.Tls member) = unready.NoClient
unready_of config.Memory = unready.Memory

-- ---- the input

-- how many bytes the lines have at most
abbrev pub input_limit : ℕ
input_limit = 1_600_000

-- The input was read to its end, and is these lines.
pub record ReadsAsks (workers : ℕ) (left left' : Option (List ℕ)) (asks : List Ask) : Type 0 where
  pub bytes : List ℕ
  pub source : Consumes left left' bytes
  pub ended : IsAtEnd left'
  pub are : AreAsks workers bytes asks

-- The input was read to its end, or past what any such lines have, and what was read isn't of their form.
pub record ReadsNoAsks (workers : ℕ) (left left' : Option (List ℕ)) : Type 0 where
  pub bytes : List ℕ
  pub read : IsReadWhole input_limit left left' bytes
  pub none : NoAsks workers bytes

-- The moments of each worker are those of the lines that were read.
pub record ReadsMoments (workers : ℕ) (left left' : Option (List ℕ)) (moments : List (List ℕ)) : Type 0 where
  pub asks : List Ask
  pub read : ReadsAsks workers left left' asks
  pub by_worker : moments ≡ moments_by workers asks

-- ---- the leases

-- the renewals were given by these calls, and each reply that was refused or bad was one of them
abbrev pub GaveRenewals : ClientConfig → List Renewal → List (List Outcome) → List LinkCall → Type 0
GaveRenewals client history lists made = Renewed client made history × (how_many is_reply (flat_map (λ outcomes. outcomes) lists) ≤ failed_calls client made)

-- What the workers' leases brought, by the client's whole history, and how the link went on.
pub record Leased (margin : ℕ) (client : ClientConfig) (moments : List (List ℕ)) (calls calls' : Option (List LinkCall)) (faults faults' : ℕ)
    (lists : List (List Outcome)) (history : List Renewal) : Type 0 where
  pub outcomes : AreOutcomes margin history moments lists
  pub waste : NoWaste margin history
  pub made : TellsMore calls calls' (GaveRenewals client history lists)
  pub failed : min (faults + how_many is_link (flat_map (λ outcomes. outcomes) lists)) (2 ^ 64 - 1) ≤ faults'

-- The text tells each lease and each renewal.
pub record Reports (margin : ℕ) (client : ClientConfig) (moments : List (List ℕ)) (calls calls' : Option (List LinkCall)) (faults faults' : ℕ)
    (text : List ℕ) : Type 0 where
  pub lists : List (List Outcome)
  pub history : List Renewal
  pub leased : Leased margin client moments calls calls' faults faults' lists history
  pub all : text ≡ report_text moments lists history

-- ---- the whole run

-- The run of these words, with what it read: the text is the report on its leases.
pub record RunReports (run : Run) (file file' input input' : Option (List ℕ)) (calls calls' : Option (List LinkCall)) (faults faults' : ℕ)
    (text : List ℕ) : Type 0 where
  pub client : ClientConfig
  pub configured : ReadsClient file file' client
  pub asks : List Ask
  pub read : ReadsAsks run.workers input input' asks
  pub reports : Reports run.margin client (moments_by run.workers asks) calls calls' faults faults' text

-- the report was written
abbrev pub WritesReport : Option (List ℕ) → Option (List ℕ) → (List ℕ → Type 0) → Type 0
WritesReport taken taken' IsReport = (text : List ℕ) × IsReport text × Appends taken taken' text

-- a proper part of it was
abbrev pub WritesPart : Option (List ℕ) → Option (List ℕ) → (List ℕ → Type 0) → Type 0
WritesPart taken taken' IsReport = (text part : List ℕ) × IsReport text × IsProperPart part text × Appends taken taken' part
