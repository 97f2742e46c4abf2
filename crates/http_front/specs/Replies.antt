-- Replies as HTTP bytes, and the replies to requests that break a rule.
use Rattle.std.specs.Prelude.{ℕ, ◌==◌, Bool, List, [], ◌∷◌, ◌++◌, length, codes, Option, Result, Ok, Err, ⊤, if◌then◌else◌}
use Rattle.std.specs.Fmt.{decimal}
use Rattle.std.specs.Io.KnownBytes.{Appends, Keeps}
use Rattle.wif_base.specs.Output.{IsProperPart}
use Rattle.wif_base.specs.declared.request.Reply.{Reply}
use Rattle.http_front.specs.Rules.{status, word, code}
use Rattle.http_front.specs.declared.reply.WriteEnd.{WriteEnd}
use Rattle.http_front.specs.declared.reply.WriteEnd.TheVariants as write_end
use Rattle.http_front.specs.declared.rule.HttpRule.{HttpRule}

-- the end of a line
abbrev pub crlf : List ℕ
crlf = 13 ∷ 10 ∷ []

-- the phrase behind a status (RFC 9110, section 15)
abbrev pub reason : ℕ → List ℕ
reason status = if status == 200 then codes "OK" else codes "Refused"

-- the field of a reply that asks for a bearer (RFC 6750, section 3)
abbrev pub challenge : ℕ → List ℕ
challenge status = if status == 401 then codes "WWW-Authenticate: Bearer" ++ crlf else []

-- the field of a reply behind which the connection ends
abbrev pub farewell : Bool → List ℕ
farewell close = if close then codes "Connection: close" ++ crlf else []

-- the first line of a reply (RFC 9112, section 4)
unfoldable pub status_line : ℕ → List ℕ
status_line status = codes "HTTP/1.1 " ++ (decimal status ++ (32 ∷ (reason status ++ crlf)))

-- the field that tells the body's length
unfoldable pub length_line : ℕ → List ℕ
length_line size = codes "Content-Length: " ++ (decimal size ++ crlf)

-- the status line, the fields, and an empty line
unfoldable pub front_text : ℕ → ℕ → Bool → List ℕ
front_text status size close =
    status_line status
    ++ (codes "Content-Type: application/json" ++ crlf)
    ++ length_line size
    ++ (codes "Cache-Control: no-store" ++ crlf)
    ++ (codes "Pragma: no-cache" ++ crlf)
    ++ challenge status
    ++ farewell close
    ++ crlf

-- a reply as HTTP bytes
unfoldable pub response_text : Reply → Bool → List ℕ
response_text reply close = front_text reply.status (length reply.body) close ++ reply.body

-- The text stands at the end of the sink; at a write fault a proper part of it does, and at want of memory nothing of it.
abbrev pub WritesReply : Option (List ℕ) → Option (List ℕ) → List ℕ → Result ⊤ WriteEnd → Type 0
WritesReply old new text (Ok done) = Appends old new text
WritesReply old new text (Err write_end.WriteFault) = (part : List ℕ) × IsProperPart part text × Appends old new part
WritesReply old new text (Err write_end.Memory) = Keeps old new

-- `{"error":WORD,"error_description":CODE}`
abbrev pub refusal_text : List ℕ → List ℕ → List ℕ
refusal_text word code = codes "{\"error\":\"" ++ (word ++ (codes "\",\"error_description\":\"" ++ (code ++ codes "\"}")))

-- the reply to a request that breaks the rule
abbrev pub refusal : HttpRule → Reply
refusal rule = record { status = status rule; body = refusal_text (word rule) (code rule) }
