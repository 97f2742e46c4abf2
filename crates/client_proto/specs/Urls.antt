-- The URLs of the services, `http://HOST[:PORT]PATH` (RFC 3986).
use Rattle.std.specs.Prelude.{◌≡◌, ℕ, List, ◌∷◌, ◌++◌, codes, length, Bool, true, ◌&&◌, nat_le, Option, None, Some, option_map, option_and_then, IfSome}
use Rattle.std.specs.Option.{option_map_or}
use Rattle.std.specs.Fmt.{decimal}
use Rattle.base_types.specs.Forms.{is_visible_text, passing}
use Rattle.base_types.specs.Reading.{◌>>=◌}
use Rattle.iam_names.specs.Cuts.{after, cut_at}
use Rattle.iam_names.specs.Forms.{begins_with, is_host}
use Rattle.client_proto.specs.Numbers.{decimal_up_to}
use Rattle.client_proto.specs.declared.config.Url.{Url}

-- ---- written

-- a host, and the port behind a colon where one is named
abbrev pub with_port : List ℕ → Option ℕ → List ℕ
with_port host None = host
with_port host (Some port) = host ++ (codes ":" ++ decimal port)

-- a URL's host and port
abbrev pub authority_text : Url → List ℕ
authority_text url = with_port url.host url.port

-- a URL as a text
abbrev pub url_text : Url → List ℕ
url_text url = codes "http://" ++ (authority_text url ++ url.path)

-- ---- its form

-- a slash and visible ASCII, at most 2,048 bytes in all
abbrev pub is_path : List ℕ → Bool
is_path text = begins_with 47 text && (nat_le (length text) 2048 && is_visible_text text)

-- from 1 to 65,535
abbrev pub is_port : ℕ → Bool
is_port port = nat_le 1 port && nat_le port 65535

-- Each part is of its form.
pub record IsUrl (url : Url) : Type 0 where
  pub host : is_host url.host ≡ true
  pub port : IfSome url.port (λ port. is_port port ≡ true)
  pub path : is_path url.path ≡ true

-- ---- read

-- a port, a decimal from 1 to 65,535
abbrev pub port_of : List ℕ → Option ℕ
port_of text = option_and_then (passing is_port) (decimal_up_to 65535 text)

-- a host alone, or a host, a colon and a port
abbrev pub authority_of : List ℕ → Option (List ℕ × Option ℕ)
authority_of text =
    option_map_or (λ parts. passing is_host parts.0 >>= (λ host. option_map (λ port. (host, Some port)) (port_of parts.1)))
    (cut_at 58 text)
    (option_map (λ host. (host, None)) (passing is_host text))

-- what stands behind the scheme, cut before its first slash
abbrev pub place_of : List ℕ → Option Url
place_of text =
    cut_at 47 text
    >>= (λ parts. authority_of parts.0
    >>= (λ authority. passing is_path (47 ∷ parts.1)
    >>= (λ path. Some (record { host = authority.0; port = authority.1; path = path }))))

-- the URL that a text is
unfoldable pub url_of : List ℕ → Option Url
url_of text = after (codes "http://") text >>= place_of
