-- The requests of a run.
use Rattle.std.specs.Prelude.{ℕ, ◌+◌, List, ◌++◌, None, Some, codes}
use Rattle.std.specs.Fmt.{decimal}
use Rattle.hmac_jws.specs.Compact.{compact}
use Rattle.wif_base.specs.declared.request.Request.{Request}
use Rattle.wif_base.specs.declared.route.Route.TheVariants.{Token, Check, Admin}

-- a command, by the administrator
unfoldable pub command_of : List ℕ → Request
command_of text = record { route = Admin; bearer = Some (codes "gen-admin-secret-1"); body = text }

-- ---- the exchange of a token from outside

-- the claims of the round's subject and of its team, for 600 seconds
unfoldable pub outside_claims : ℕ → ℕ → List ℕ
outside_claims round team =
    codes "{\"aud\":\"//iam.googleapis.com/projects/1/locations/global/workloadIdentityPools/gen-pool/providers/gen-prov\",\"exp\":"
    ++ (decimal (1700000600 + round) ++ (codes ",\"iss\":\"https://out.example\",\"sub\":\"s"
    ++ (decimal round ++ (codes "\",\"team\":\"t" ++ (decimal team ++ codes "\"}")))))

-- the token, signed under the provider's key
unfoldable pub outside_token : ℕ → ℕ → List ℕ
outside_token round team = compact (codes "PPPPPPPPPPPPPPPPPPPPPPPPPPPPPPPP") (outside_claims round team)

-- the form of its exchange: the grant, the provider, the token and its type
unfoldable pub exchange_form : List ℕ → List ℕ
exchange_form token =
    codes "grant_type=urn%3Aietf%3Aparams%3Aoauth%3Agrant-type%3Atoken-exchange&audience=%2F%2Fiam.googleapis.com%2Fprojects%2F1"
    ++ (codes "%2Flocations%2Fglobal%2FworkloadIdentityPools%2Fgen-pool%2Fproviders%2Fgen-prov&subject_token="
    ++ (token ++ codes "&subject_token_type=urn%3Aietf%3Aparams%3Aoauth%3Atoken-type%3Ajwt"))

-- the exchange of the round's token from outside
unfoldable pub exchange_of : ℕ → ℕ → Request
exchange_of round team = record { route = Token; bearer = None; body = exchange_form (outside_token round team) }

-- ---- the narrowing

-- the form that narrows a token: the grant, the token and its type, and a boundary of one rule, the role of readers on that item
unfoldable pub narrowing_form : List ℕ → ℕ → List ℕ
narrowing_form token item =
    codes "grant_type=urn%3Aietf%3Aparams%3Aoauth%3Agrant-type%3Atoken-exchange&subject_token="
    ++ (token ++ (codes "&subject_token_type=urn%3Aietf%3Aparams%3Aoauth%3Atoken-type%3Aaccess_token&options=%7B%22accessBoundary%22%3A%7B"
    ++ (codes "%22accessBoundaryRules%22%3A%5B%7B%22availablePermissions%22%3A%5B%22inRole%3Aroles%2Fgen.reader%22%5D%2C"
    ++ (codes "%22availableResource%22%3A%22%2F%2Fgen.example%2Fitems%2F" ++ (decimal item ++ codes "%22%7D%5D%7D%7D")))))

-- the exchange that narrows a token to that item
unfoldable pub narrowing_of : List ℕ → ℕ → Request
narrowing_of token item = record { route = Token; bearer = None; body = narrowing_form token item }

-- ---- the check

-- the check of a token for `gen.items.get` on the item of that number
unfoldable pub check_body : List ℕ → ℕ → List ℕ
check_body token item =
    codes "{\"permission\":\"gen.items.get\",\"resource\":\"//gen.example/items/"
    ++ (decimal item ++ (codes "\",\"token\":\"" ++ (token ++ codes "\"}")))

-- that check, by the gate
unfoldable pub check_of : List ℕ → ℕ → Request
check_of token item = record { route = Check; bearer = Some (codes "gen-gate-secret-01"); body = check_body token item }
