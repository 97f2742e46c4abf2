-- What a request for a service account's token asks for, or the first rule that it fails.
use Rattle.std.specs.Prelude.{ℕ, Bool, ◌&&◌, ◌∷◌, [], ◌++◌, List, codes, Option, None, Some, option_and_then, nat_le, Result, Ok}
use Rattle.std.specs.Fmt.{decimal}
use Rattle.std.specs.List.{list_all}
use Rattle.std.specs.Str.{bytes_eq}
use Rattle.std.specs.Str.Parse.{digits_value}
use Rattle.base_types.specs.Forms.{passing}
use Rattle.base_types.specs.Steps.{◌>>=◌, needed}
use Rattle.serde_json.specs.Data.{Data, null, boolean, number, string, array, object}
use Rattle.serde_json.specs.Find.{as_str, get}
use Rattle.json_text.specs.Arrays.{short_list}
use Rattle.access_token.specs.Forms.{are_words}
use Rattle.iam_names.specs.Cuts.{after}
use Rattle.iam_names.specs.Forms.{is_account, is_scope_word}
use Rattle.links.specs.Licence.{knows_word}
use Rattle.links.specs.State.{Content}
use Rattle.links.specs.declared.entry.Entry.{Entry}
use Rattle.links.specs.declared.entry.Entry.TheVariants.{Impersonate}
use Rattle.wif_base.specs.Routes.{before_suffix}
use Rattle.wif_base.specs.declared.request.Request.{Request}
use Rattle.sts_core.specs.Asked.{live_issued}
use Rattle.exchange_form.specs.Forms.{object_of}
use Rattle.sts_replies.specs.declared.generate_rule.GenerateRule.{GenerateRule}
use Rattle.sts_replies.specs.declared.generate_rule.GenerateRule.TheVariants.{I1, I2, I3, I4, I5, I6, I7}

-- a member that is null counts as absent
abbrev pub given : Option Data → Option Data
given None = None
given (Some null) = None
given (Some (boolean b)) = Some (boolean b)
given (Some (number n)) = Some (number n)
given (Some (string s)) = Some (string s)
given (Some (array ds)) = Some (array ds)
given (Some (object ms)) = Some (object ms)

-- the account of a delegate: `projects/-/serviceAccounts/ACCOUNT`
abbrev pub delegate_of : Data → Option (List ℕ)
delegate_of d = option_and_then (passing is_account) (option_and_then (after (codes "projects/-/serviceAccounts/")) (as_str d))

-- the accounts of at most 4 delegates, where there are any
abbrev pub delegates_of : Option Data → Option (List (List ℕ))
delegates_of None = Some []
delegates_of (Some d) = short_list delegate_of 4 d

-- a scope word as a text
abbrev pub word_of : Data → Option (List ℕ)
word_of d = option_and_then (passing is_scope_word) (as_str d)

-- a list of 1 to 16 scope words that are all there
abbrev pub scope_of : Content → Option Data → Option (List (List ℕ))
scope_of c d =
    option_and_then (passing (list_all (knows_word c))) (option_and_then (passing are_words) (option_and_then (short_list word_of 16) d))

-- from 1 to 3,600, and the digits are its decimal text
abbrev pub is_lifetime : List ℕ → ℕ → Bool
is_lifetime digits seconds = nat_le 1 seconds && (nat_le seconds 3600 && bytes_eq digits (decimal seconds))

-- the seconds of a decimal text of 1 to 3,600
abbrev pub seconds_of : List ℕ → Option ℕ
seconds_of digits = passing (is_lifetime digits) (digits_value 10 digits)

-- the seconds of a lifetime as a text, with an `s` behind them; an hour where there is none
abbrev pub lifetime_of : Option Data → Option ℕ
lifetime_of None = Some 3600
lifetime_of (Some d) = option_and_then seconds_of (option_and_then (before_suffix (codes "s")) (as_str d))

-- the impersonation that is asked for with the bearer's token, or the first rule that the request fails
unfoldable pub generated_for : Content → List ℕ → Request → ℕ → Result Entry GenerateRule
generated_for c account request now =
    needed I1 request.bearer >>= (λ bearer.
    needed I2 (passing is_account account) >>= (λ target.
    needed I3 (object_of request.body) >>= (λ d.
    needed I4 (delegates_of (given (get (codes "delegates") d))) >>= (λ delegates.
    needed I5 (scope_of c (get (codes "scope") d)) >>= (λ words.
    needed I6 (lifetime_of (given (get (codes "lifetime") d))) >>= (λ lifetime.
    needed I7 (live_issued c now bearer) >>= (λ parent.
    Ok (Impersonate (record { parent = parent; accounts = delegates ++ target ∷ []; scope = words; lifetime = lifetime; at = now })))))))))
