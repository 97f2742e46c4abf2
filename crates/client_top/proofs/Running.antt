-- What a source that is told says of what was read from it.
use Rattle.std.proofs.Common.{◌≡◌, ◌≢◌, ◌≤◌, ◌<◌, ◌⊎◌, inl, inr, ⊎_elim, ℕ, List, [], ◌++◌, length, refl, sym, ◌∙◌, ap, subst, arith, length-append}
use Rattle.std.proofs.lemmas.List.{append-nil}
use Rattle.std.specs.Prelude.{Option, None, Some, Ok, Err}
use Rattle.std.specs.Io.KnownBytes.{Consumes, IsAtEnd}
use Rattle.wif_base.specs.Whole.{IsReadWhole}
use Rattle.client_link.specs.declared.target.LinkCall.{LinkCall}
use Rattle.client_proto.specs.ClientFile.{client_of}
use Rattle.client_proto.specs.declared.config.ClientConfig.{ClientConfig}
use Rattle.client_proto.specs.declared.fault.ConfigFault.{ConfigFault}
use Rattle.client_proto.specs.declared.fault.ConfigFault.TheVariants as config
use Rattle.client_top.specs.Asks.{AreAsks, NoAsks}
use Rattle.client_top.specs.Runs.{IsClientFile, NoClientFile, ReadsAsks, ReadsClient, ReadsMoments, ReadsNoAsks, ReadsNoClient, Reports, RunReports, WritesPart, WritesReport, file_limit, input_limit, unready_of}
use Rattle.client_top.specs.declared.asks.Ask.{Ask}
use Rattle.client_top.specs.declared.unready.Unready.TheVariants as unready
use Rattle.client_top.specs.declared.words.Run.{Run}
use Rattle.client_top.proofs.Asking.{asks_within}

-- ---- sources that tell

-- what was read is the front of what there was
record Front (whole : List ℕ) (left' : Option (List ℕ)) (read : List ℕ) : Type 0 where
  rest : List ℕ
  is : whole ≡ read ++ rest
  left_is : left' ≡ Some rest

front_of : (whole : List ℕ) (left' : Option (List ℕ)) (read : List ℕ) → Consumes (Some whole) left' read → Front whole left' read
front_of whole None read consumes = absurd consumes
front_of whole (Some rest) read consumes = record { rest = rest; is = consumes; left_is = refl }

at_end : (whole : List ℕ) (left' : Option (List ℕ)) (read : List ℕ) → Consumes (Some whole) left' read → IsAtEnd left' → whole ≡ read
at_end whole left' read consumes ended =
    let front = front_of whole left' read consumes in
    let none : front.rest ≡ [] = subst IsAtEnd front.left_is ended in
    front.is ∙ ap (λ (l : List ℕ). read ++ l) none ∙ append-nil read

-- all was read, or there is more than the limit
whole_or : (most : ℕ) (whole : List ℕ) (left left' : Option (List ℕ)) (read : List ℕ) → left ≡ Some whole → IsReadWhole most left left' read
    → (whole ≡ read) ⊎ (most < length whole)
whole_or most whole left left' read told is =
    let source : Consumes (Some whole) left' read = subst (λ l. Consumes l left' read) told is.source in
    let front = front_of whole left' read source in
    ⊎_elim (λ ended. inl (at_end whole left' read source ended)) (λ long. inr (omega (arith, long, ap length front.is, length-append read front.rest))) is.whole

-- ---- the client's file

module _ (file : List ℕ) (left left' : Option (List ℕ)) (told : left ≡ Some file) where
  pub client_not_refused : (client : ClientConfig) → IsClientFile file client → ReadsNoClient left left' → ⊥
  client_not_refused client is reads =
      ⊎_elim (λ same. reads.none client (subst (λ b. IsClientFile b client) same is)) (λ long. omega (arith, long, is.size))
      (whole_or file_limit file left left' reads.bytes told reads.read)

  pub client_not_taken : (client : ClientConfig) → NoClientFile file → ReadsClient left left' client → ⊥
  client_not_taken client none reads =
      let ended : file ≡ reads.bytes = ⊎_elim (λ same. same)
      (λ long. at_end file left' reads.bytes (subst (λ l. Consumes l left' reads.bytes) told reads.read.source)
      (⊎_elim (λ over. over) (λ past. absurd (omega (arith, past, reads.is.size))) reads.read.whole))
      (whole_or file_limit file left left' reads.bytes told reads.read) in
      none client (subst (λ b. IsClientFile b client) (sym ended) reads.is)

-- what was read says why there is no client
pub refused_file : (left left' : Option (List ℕ)) (bytes : List ℕ) (fault : ConfigFault) → IsReadWhole file_limit left left' bytes
    → (fault ≢ config.Memory → client_of bytes ≡ Err fault) → unready_of fault ≡ unready.NoClient → ReadsNoClient left left'
refused_file left left' bytes fault read refused is = record {
  bytes = bytes;
  read = read;
  none = λ client file. not_both client (refused (not_memory fault is)) file.says;
}
  where
    not_memory : (f : ConfigFault) → unready_of f ≡ unready.NoClient → f ≢ config.Memory
    not_memory config.Json same = λ e. cc e
    not_memory (config.Field member) same = λ e. cc e
    not_memory (config.Tls member) same = λ e. cc e
    not_memory config.Memory same = cc same

    not_both : (client : ClientConfig) → client_of bytes ≡ Err fault → client_of bytes ≡ Ok client → ⊥
    not_both client one other = cc (one, other)

-- a file that is too long is none
pub long_file : (left left' : Option (List ℕ)) (bytes : List ℕ) → IsReadWhole file_limit left left' bytes → file_limit < length bytes → ReadsNoClient left left'
long_file left left' bytes read long = record { bytes = bytes; read = read; none = λ client file. omega (arith, long, file.size) }

-- ---- the input

-- lines that were read are all
pub reads_asks : (workers : ℕ) (left left' : Option (List ℕ)) (bytes : List ℕ) (asks : List Ask) → workers ≤ 64 → IsReadWhole input_limit left left' bytes
    → AreAsks workers bytes asks
    → ReadsAsks workers left left' asks
reads_asks workers left left' bytes asks few read are = record {
  bytes = bytes;
  source = read.source;
  ended = ⊎_elim (λ over. over) (λ past. absurd (omega (arith, past, asks_within workers bytes asks few are))) read.whole;
  are = are;
}

module _ (workers : ℕ) (bytes : List ℕ) (left left' : Option (List ℕ)) (told : left ≡ Some bytes) where
  pub asks_not_refused : (asks : List Ask) → workers ≤ 64 → AreAsks workers bytes asks → ReadsNoAsks workers left left' → ⊥
  asks_not_refused asks few are reads =
      ⊎_elim (λ same. reads.none asks (subst (λ b. AreAsks workers b asks) same are)) (λ long. omega (arith, long, asks_within workers bytes asks few are))
      (whole_or input_limit bytes left left' reads.bytes told reads.read)

  pub asks_not_taken : (moments : List (List ℕ)) → NoAsks workers bytes → ReadsMoments workers left left' moments → ⊥
  asks_not_taken moments none reads =
      let same : bytes ≡ reads.read.bytes = at_end bytes left' reads.read.bytes (subst (λ l. Consumes l left' reads.read.bytes) told reads.read.source)
      reads.read.ended in
      none reads.asks (subst (λ b. AreAsks workers b reads.asks) (sym same) reads.read.are)

-- ---- the report

module _ (run : Run) (file file' input input' taken taken' : Option (List ℕ)) (calls calls' : Option (List LinkCall)) (faults faults' : ℕ)
    (client : ClientConfig) (moments : List (List ℕ))
    (configured : ReadsClient file file' client) (reads : ReadsMoments run.workers input input' moments) where
  as_run : (text : List ℕ) → Reports run.margin client moments calls calls' faults faults' text
      → RunReports run file file' input input' calls calls' faults faults' text
  as_run text reports = record {
    client = client;
    configured = configured;
    asks = reads.asks;
    read = reads.read;
    reports = subst (λ (m : List (List ℕ)). Reports run.margin client m calls calls' faults faults' text) reads.by_worker reports;
  }

  pub whole_run : WritesReport taken taken' (Reports run.margin client moments calls calls' faults faults')
      → WritesReport taken taken' (RunReports run file file' input input' calls calls' faults faults')
  whole_run written = (written.0, as_run written.0 written.1, written.2)

  pub part_run : WritesPart taken taken' (Reports run.margin client moments calls calls' faults faults')
      → WritesPart taken taken' (RunReports run file file' input input' calls calls' faults faults')
  part_run written = (written.0, written.1, as_run written.0 written.2, written.3, written.4)

-- ---- the statuses of a run that leased nothing

-- what holds at each of four holds
pub at_each : {A B C D P : Type 0} → (A → P) → (B → P) → (C → P) → (D → P) → A ⊎ (B ⊎ (C ⊎ D)) → P
at_each a b c d (inl x) = a x
at_each a b c d (inr (inl x)) = b x
at_each a b c d (inr (inr (inl x))) = c x
at_each a b c d (inr (inr (inr x))) = d x
