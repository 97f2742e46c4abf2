-- The replies to the client's requests, as bytes of HTTP (RFC 9112), and what they say.
use Rattle.std.specs.Prelude.{◌≡◌, ◌≤◌, ◌⊎◌, ◌+◌, ◌==◌, ℕ, List, [], ◌∷◌, ◌++◌, length, map, codes, Bool, ◌&&◌, nat_le, Option, None, Some, option_map, option_and_then, if◌then◌else◌}
use Rattle.std.specs.Fmt.{decimal}
use Rattle.std.specs.Str.{str_eq_ignore_ascii_case}
use Rattle.httparse.specs.Grammar.{ResponseHead, ReadsResponse, status_code}
use Rattle.httparse.specs.Spans.{name_and_value}
use Rattle.serde_json.specs.Data.{Data}
use Rattle.base_types.specs.Forms.{has_size, is_visible_text, passing}
use Rattle.base_types.specs.Reading.{◌>>=◌}
use Rattle.json_text.specs.Document.{document, text_at, whole_number_at}
use Rattle.json_text.specs.Members.{name_at}
use Rattle.client_link.specs.declared.target.Target.{Target}
use Rattle.client_link.specs.declared.target.Target.TheVariants.{Credential, Token, Account}
use Rattle.client_proto.specs.ExpireTimes.{expire_time_of}
use Rattle.client_proto.specs.declared.reply.ReadReply.{ReadReply}
use Rattle.client_proto.specs.declared.reply.ReadReply.TheVariants as reading

-- ---- the message

-- the names and values of a head's fields, in order
abbrev pub Fields : Type 0
Fields = List (List ℕ × List ℕ)

-- the values of the fields of this name, in order; names are compared without case
abbrev pub values : List ℕ → Fields → List (List ℕ)
values name [] = []
values name (field ∷ fields) = if str_eq_ignore_ascii_case field.0 name then field.1 ∷ values name fields else values name fields

-- A head of at most 64 fields stands at the front, with this status and one Content-Length, the decimal of the length of this body, which
-- follows. Bytes behind the body don't count.
pub record IsReply (bytes : List ℕ) (status : ℕ) (body : List ℕ) : Type 0 where
  pub head : ResponseHead
  pub more : List ℕ
  pub reads : ReadsResponse bytes head (body ++ more)
  pub room : length head.fields ≤ 64
  pub status_is : status ≡ status_code head
  pub size : values (codes "content-length") (map name_and_value head.fields) ≡ decimal (length body) ∷ []

-- ---- what it says

-- 1 to 8,192 visible ASCII
abbrev pub is_token : List ℕ → Bool
is_token text = has_size 1 8192 text && is_visible_text text

-- the one type of token that is taken (RFC 6750)
abbrev pub is_bearer : List ℕ → Bool
is_bearer text = str_eq_ignore_ascii_case text (codes "bearer")

-- so many seconds after the moment, at most 1,000,000
abbrev pub end_after : ℕ → Data → Option ℕ
end_after asked d =
    option_map (λ seconds. asked + seconds)
    (option_and_then (passing (λ seconds. nat_le seconds 1_000_000)) (whole_number_at (codes "expires_in") d))

-- an access token and its end, of a request that was asked at the moment (RFC 6749, section 5.1)
abbrev pub access_token : ℕ → Data → Option (List ℕ × ℕ)
access_token asked d =
    name_at is_token (codes "access_token") d
    >>= (λ token. name_at is_bearer (codes "token_type") d
    >>= (λ type. end_after asked d
    >>= (λ end. Some (token, end))))

-- a token of a service account and its end
abbrev pub account_token : Data → Option (List ℕ × ℕ)
account_token d =
    name_at is_token (codes "accessToken") d
    >>= (λ token. option_and_then expire_time_of (text_at (codes "expireTime") d)
    >>= (λ end. Some (token, end)))

-- the token and its end in a body; a file has none
abbrev pub token_of : Target → ℕ → Data → Option (List ℕ × ℕ)
token_of Credential asked d = None
token_of Token asked d = access_token asked d
token_of Account asked d = account_token d

-- the token and its end, and Bad where there are none
abbrev pub told_token : Option (List ℕ × ℕ) → ReadReply
told_token None = reading.Bad
told_token (Some told) = reading.Token told.0 told.1

-- what a status and a body say: 200 with a token, 400 to 599, or neither
unfoldable pub reading_of : Target → ℕ → ℕ → List ℕ → ReadReply
reading_of target asked status body =
    if status == 200 then told_token (option_and_then (token_of target asked) (document body))
    else (if nat_le 400 status && nat_le status 599 then reading.Refused status else reading.Bad)

-- what a reply says, and Bad where the bytes are none
abbrev pub IsReading : Target → ℕ → List ℕ → ReadReply → Type 0
IsReading target asked bytes said =
    ((status : ℕ) × (body : List ℕ) × IsReply bytes status body × (said ≡ reading_of target asked status body))
    ⊎ (((status : ℕ) (body : List ℕ) → IsReply bytes status body → ⊥) × (said ≡ reading.Bad))
