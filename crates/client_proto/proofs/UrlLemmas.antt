-- A URL's text is its parts joined, and reads as that URL.
use Rattle.std.proofs.Common.{◌≡◌, ◌<◌, ◌≤◌, ◌^◌, ℕ, List, [], ◌∷◌, ◌++◌, Bool, true, false, not, ◌&&◌, eqb, nat_le, cond, length, refl, ap, sym, ◌∙◌, subst, arith, eqb-true}
use Rattle.std.proofs.lemmas.Bool.Decides.{nat_tests}
use Rattle.std.proofs.lemmas.Fmt.{decimal_is_IsNumeral}
use Rattle.std.specs.Prelude.{Option, None, Some, option_map, option_and_then, IfSome, codes}
use Rattle.std.specs.Option.{option_map_or}
use Rattle.std.specs.List.{list_all}
use Rattle.std.specs.Fmt.{decimal}
use Rattle.std.specs.Char.{digit_value}
use Rattle.std.specs.Str.Parse.{AllDigits}
use Rattle.base_types.specs.Forms.{is_visible_text, passing}
use Rattle.base_types.specs.Reading.{◌>>=◌}
use Rattle.iam_names.specs.Cuts.{after, cut_at}
use Rattle.iam_names.specs.Forms.{is_host, is_host_byte}
use Rattle.iam_names.proofs.AccountLemmas.{both}
use Rattle.iam_names.proofs.CutLemmas.{lacks, after-append, after-sound, cut_at-append, cut_at-lacks, cut_at-sound}
use Rattle.iam_names.proofs.ReadBackLemmas.{implied}
use Rattle.client_proto.specs.Numbers.{decimal_up_to}
use Rattle.client_proto.specs.Urls.{with_port, authority_text, url_text, is_path, is_port, IsUrl, port_of, authority_of, place_of, url_of}
use Rattle.client_proto.specs.declared.config.Url.{Url}
use Rattle.client_proto.proofs.NumberLemmas.{up_to-decimal, up_to-sound}

abbrev Authority : Type 0
Authority = List ℕ × Option ℕ

abbrev alone_of : List ℕ → Authority
alone_of host = (host, None)

abbrev ported : List ℕ → ℕ → Authority
ported host port = (host, Some port)

abbrev with_ports : List ℕ × List ℕ → Option Authority
with_ports parts = passing is_host parts.0 >>= (λ host. option_map (ported host) (port_of parts.1))

abbrev located : Authority → List ℕ → Url
located a path = record { host = a.0; port = a.1; path = path }

-- ---- what a cut leaves out

host_no_slash : (x : ℕ) → is_host_byte x ≡ true → not (eqb x 47) ≡ true
host_no_slash x h = grind (arith, nat_tests)

host_no_colon : (x : ℕ) → is_host_byte x ≡ true → not (eqb x 58) ≡ true
host_no_colon x h = grind (arith, nat_tests)

host_lacks_slash : (host : List ℕ) → is_host host ≡ true → lacks 47 host ≡ true
host_lacks_slash host h = implied is_host_byte (λ x. not (eqb x 47)) host_no_slash host (both (nat_le 1 (length host)) (list_all is_host_byte host) h).1

host_lacks_colon : (host : List ℕ) → is_host host ≡ true → lacks 58 host ≡ true
host_lacks_colon host h = implied is_host_byte (λ x. not (eqb x 58)) host_no_colon host (both (nat_le 1 (length host)) (list_all is_host_byte host) h).1

slash_no_digit : (c : ℕ) → digit_value c < 10 → (b : Bool) → eqb c 47 ≡ b → not b ≡ true
slash_no_digit c digit true is = let at : digit_value 47 < 10 = subst (λ (k : ℕ). digit_value k < 10) (eqb-true c 47 is) digit in absurd (omega (arith, at))
slash_no_digit c digit false is = refl

digits_lack_slash : (ds : List ℕ) → AllDigits 10 ds → lacks 47 ds ≡ true
digits_lack_slash [] all = refl
digits_lack_slash (d ∷ ds) all = rw (slash_no_digit d all.0 (eqb d 47) refl, digits_lack_slash ds all.1) refl

lacks-append : (byte : ℕ) (xs ys : List ℕ) → lacks byte xs ≡ true → lacks byte ys ≡ true → lacks byte (xs ++ ys) ≡ true
lacks-append byte [] ys front back = back
lacks-append byte (x ∷ xs) ys front back =
    let parts = both (not (eqb x byte)) (lacks byte xs) front in
    rw (parts.0, lacks-append byte xs ys parts.1 back) refl

port_small : (port : ℕ) → is_port port ≡ true → (1 ≤ port) × (port ≤ 65535)
port_small port is = let parts = both (nat_le 1 port) (nat_le port 65535) is in (grind (arith, nat_tests), grind (arith, nat_tests))

authority_lacks_slash : (host : List ℕ) (port : Option ℕ) → is_host host ≡ true → IfSome port (λ p. is_port p ≡ true) → lacks 47 (with_port host port) ≡ true
authority_lacks_slash host None is is' = host_lacks_slash host is
authority_lacks_slash host (Some port) is is' =
    let small : port < 2 ^ 64 = omega (arith, port_small port is') in
    lacks-append 47 host (58 ∷ decimal port) (host_lacks_slash host is) (digits_lack_slash (decimal port) (decimal_is_IsNumeral port small).0.1)

-- ---- a value that passes

chosen : {A : Type 0} (test : Bool) (x : A) → test ≡ true → cond test (Some x) None ≡ Some x
chosen true x h = refl
chosen false x h = cc

passed : {A : Type 0} (test : A → Bool) (x y : A) → passing test x ≡ Some y → (x ≡ y) × (test x ≡ true)
passed test x y h = by_test (test x) refl h
  where
    by_test : (b : Bool) → test x ≡ b → cond b (Some x) None ≡ Some y → (x ≡ y) × (test x ≡ true)
    by_test true is g = (cc, is)
    by_test false is g = cc

-- ---- a host and a port

authority-read : (host : List ℕ) (port : Option ℕ) → is_host host ≡ true → IfSome port (λ p. is_port p ≡ true) → authority_of (with_port host port) ≡ Some (host, port)
authority-read host None is is' =
    ap (λ (r : Option (List ℕ × List ℕ)). option_map_or with_ports r (option_map alone_of (passing is_host host)))
    (cut_at-lacks 58 host (host_lacks_colon host is))
    ∙ ap (option_map alone_of) (chosen (is_host host) host is)
authority-read host (Some port) is is' =
    let small = port_small port is' in
    let read : port_of (decimal port) ≡ Some port =
    ap (option_and_then (passing is_port)) (up_to-decimal 65535 port small.1 (omega (arith, small.1))) ∙ chosen (is_port port) port is' in
    ap (λ (r : Option (List ℕ × List ℕ)). option_map_or with_ports r (option_map alone_of (passing is_host (host ++ (58 ∷ decimal port)))))
    (cut_at-append 58 host (decimal port) (host_lacks_colon host is))
    ∙ ap (λ (r : Option (List ℕ)). r >>= (λ h. option_map (ported h) (port_of (decimal port)))) (chosen (is_host host) host is)
    ∙ ap (option_map (ported host)) read

pub record IsAuthority (text host : List ℕ) (port : Option ℕ) : Type 0 where
  pub text_is : text ≡ with_port host port
  pub host_is : is_host host ≡ true
  pub port_is : IfSome port (λ p. is_port p ≡ true)

authority-sound : (text host : List ℕ) (port : Option ℕ) → authority_of text ≡ Some (host, port) → IsAuthority text host port
authority-sound text host port h = by_cut (cut_at 58 text) refl h
  where
    alone : (r : Option (List ℕ)) → passing is_host text ≡ r → option_map alone_of r ≡ Some (host, port) → IsAuthority text host port
    alone None is g = cc
    alone (Some x) is g =
        let pass = passed is_host text x is in
        let pair : ◌≡◌ {A = Authority} (x, None) (host, port) = cc in
        let name : x ≡ host = ap (λ (a : Authority). a.0) pair in
        let none : None ≡ port = ap (λ (a : Authority). a.1) pair in
        subst (λ (p : Option ℕ). IsAuthority text host p) none (record {
          text_is = pass.0 ∙ name;
          host_is = ap is_host (sym (pass.0 ∙ name)) ∙ pass.1;
          port_is = tt;
        })

    with_port : (front back x : List ℕ) (r : Option ℕ) → text ≡ front ++ 58 ∷ back → front ≡ x → is_host front ≡ true → port_of back ≡ r
        → option_map (ported x) r ≡ Some (host, port) → IsAuthority text host port
    with_port front back x None cut same is none g = cc
    with_port front back x (Some p) cut same is some g =
        let pair : ◌≡◌ {A = Authority} (x, Some p) (host, port) = cc in
        let name : x ≡ host = ap (λ (a : Authority). a.0) pair in
        let number : Some p ≡ port = ap (λ (a : Authority). a.1) pair in
        by_number (decimal_up_to 65535 back) refl some name number
      where
        by_number : (n : Option ℕ) → decimal_up_to 65535 back ≡ n → option_and_then (passing is_port) n ≡ Some p → x ≡ host → Some p ≡ port → IsAuthority text host port
        by_number None from to name number = cc
        by_number (Some n) from to name number =
            let pass = passed is_port n p to in
            let written : back ≡ decimal p = (up_to-sound 65535 back n from).1 ∙ ap decimal pass.0 in
            subst (λ (q : Option ℕ). IsAuthority text host q) number (record {
              text_is = cut ∙ ap (λ (l : List ℕ). l ++ 58 ∷ back) (same ∙ name) ∙ ap (λ (l : List ℕ). host ++ 58 ∷ l) written;
              host_is = ap is_host (sym (same ∙ name)) ∙ is;
              port_is = ap is_port (sym pass.0) ∙ pass.1;
            })

    by_host : (front back : List ℕ) (r : Option (List ℕ)) → text ≡ front ++ 58 ∷ back → passing is_host front ≡ r
        → r >>= (λ x. option_map (ported x) (port_of back)) ≡ Some (host, port) → IsAuthority text host port
    by_host front back None cut is g = cc
    by_host front back (Some x) cut is g =
        let pass = passed is_host front x is in
        with_port front back x (port_of back) cut pass.0 pass.1 refl g

    by_cut : (r : Option (List ℕ × List ℕ)) → cut_at 58 text ≡ r
        → option_map_or with_ports r (option_map alone_of (passing is_host text)) ≡ Some (host, port)
        → IsAuthority text host port
    by_cut None is g = alone (passing is_host text) refl g
    by_cut (Some parts) is g = by_host parts.0 parts.1 (passing is_host parts.0) (cut_at-sound 58 text parts is) refl g

-- ---- the whole

path_tail : (path : List ℕ) → is_path path ≡ true → (tail : List ℕ) × (path ≡ 47 ∷ tail)
path_tail [] is = cc
path_tail (x ∷ tail) is =
    let first = (both (eqb x 47) (nat_le (length (x ∷ tail)) 2048 && is_visible_text (x ∷ tail)) is).0 in
    (tail, ap (λ (y : ℕ). y ∷ tail) (eqb-true x 47 first))

pub url-read : (url : Url) → IsUrl url → url_of (url_text url) ≡ Some url
unfolding url_of
url-read url is =
    let path = path_tail url.path is.path in
    let authority = authority_text url in
    let tail : authority ++ url.path ≡ authority ++ (47 ∷ path.0) = ap (λ (l : List ℕ). authority ++ l) path.1 in
    let cut : cut_at 47 (authority ++ url.path) ≡ Some (authority, path.0) =
    ap (cut_at 47) tail ∙ cut_at-append 47 authority path.0 (authority_lacks_slash url.host url.port is.host is.port) in
    let good : passing is_path (47 ∷ path.0) ≡ Some url.path = ap (passing is_path) (sym path.1) ∙ chosen (is_path url.path) url.path is.path in
    ap (λ (r : Option (List ℕ)). r >>= place_of) (after-append (codes "http://") (authority ++ url.path))
    ∙ ap (λ (r : Option (List ℕ × List ℕ)). r >>= (λ parts. authority_of parts.0 >>= (λ a. passing is_path (47 ∷ parts.1) >>= (λ p. Some (located a p))))) cut
    ∙ ap (λ (r : Option Authority). r >>= (λ a. passing is_path (47 ∷ path.0) >>= (λ p. Some (located a p)))) (authority-read url.host url.port is.host is.port)
    ∙ ap (λ (r : Option (List ℕ)). r >>= (λ p. Some (located (url.host, url.port) p))) good

pub record SaysUrl (text : List ℕ) (url : Url) : Type 0 where
  pub text_is : text ≡ url_text url
  pub url_is : IsUrl url

pub url-sound : (text : List ℕ) (url : Url) → url_of text ≡ Some url → SaysUrl text url
unfolding url_of
url-sound text url h = by_scheme (after (codes "http://") text) refl h
  where
    by_path : (rest : List ℕ) (front back : List ℕ) (a : Authority) (r : Option (List ℕ)) → text ≡ codes "http://" ++ rest → rest ≡ front ++ 47 ∷ back → IsAuthority front a.0 a.1
        → passing is_path (47 ∷ back) ≡ r → r >>= (λ p. Some (located a p)) ≡ Some url → SaysUrl text url
    by_path rest front back a None scheme cut authority is g = cc
    by_path rest front back a (Some p) scheme cut authority is g =
        let pass = passed is_path (47 ∷ back) p is in
        let made : ◌≡◌ {A = Url} (located a p) url = cc in
        let place : text ≡ codes "http://" ++ (with_port a.0 a.1 ++ p) =
        scheme ∙ ap (λ (l : List ℕ). codes "http://" ++ l) (cut ∙ ap (λ (l : List ℕ). l ++ 47 ∷ back) authority.text_is ∙ ap (λ (l : List ℕ). with_port a.0 a.1 ++ l) pass.0) in
        subst (λ (u : Url). SaysUrl text u) made (record {
          text_is = place;
          url_is = record { host = authority.host_is; port = authority.port_is; path = ap is_path (sym pass.0) ∙ pass.1 };
        })

    by_authority : (rest front back : List ℕ) (r : Option Authority) → text ≡ codes "http://" ++ rest → rest ≡ front ++ 47 ∷ back → authority_of front ≡ r
        → r >>= (λ a. passing is_path (47 ∷ back) >>= (λ p. Some (located a p))) ≡ Some url → SaysUrl text url
    by_authority rest front back None scheme cut is g = cc
    by_authority rest front back (Some a) scheme cut is g = by_path rest front back a (passing is_path (47 ∷ back)) scheme cut (authority-sound front a.0 a.1 is) refl g

    by_cut : (rest : List ℕ) (r : Option (List ℕ × List ℕ)) → text ≡ codes "http://" ++ rest → cut_at 47 rest ≡ r
        → r >>= (λ parts. authority_of parts.0 >>= (λ a. passing is_path (47 ∷ parts.1) >>= (λ p. Some (located a p)))) ≡ Some url → SaysUrl text url
    by_cut rest None scheme is g = cc
    by_cut rest (Some parts) scheme is g = by_authority rest parts.0 parts.1 (authority_of parts.0) scheme (cut_at-sound 47 rest parts is) refl g

    by_scheme : (r : Option (List ℕ)) → after (codes "http://") text ≡ r → r >>= place_of ≡ Some url → SaysUrl text url
    by_scheme None is g = cc
    by_scheme (Some rest) is g = by_cut rest (cut_at 47 rest) (after-sound (codes "http://") text rest is) refl g

-- ---- what the reader of a port needs

pub port_within : (text : List ℕ) (port : ℕ) → decimal_up_to 65535 text ≡ Some port → port < 2 ^ 16
port_within text port is = omega (arith, (up_to-sound 65535 text port is).0)

pub port_read : (text : List ℕ) (port : ℕ) → decimal_up_to 65535 text ≡ Some port → 1 ≤ port → port_of text ≡ Some port
port_read text port is some =
    let most = (up_to-sound 65535 text port is).0 in
    let good : is_port port ≡ true = grind (arith, nat_tests) in
    ap (option_and_then (passing is_port)) is ∙ chosen (is_port port) port good
