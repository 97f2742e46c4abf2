-- What a run begins with: its configuration and the commands that come first.
use Rattle.std.specs.Prelude.{ℕ, List, ◌++◌, None, codes}
use Rattle.service_config.specs.declared.config.Config.{Config}

-- the issuer, the key, and the bearers of commands and of checks
unfoldable pub run_config : Config
run_config = record {
  issuer = codes "https://gen.example";
  key = codes "SSSSSSSSSSSSSSSSSSSSSSSSSSSSSSSS";
  admin = codes "gen-admin-secret-1";
  gate = codes "gen-gate-secret-01";
  start = None;
}

-- the pool `gen-pool` of project 1
unfoldable pub pool_command : List ℕ
pool_command = codes "{\"kind\":\"pool\",\"pool\":\"gen-pool\",\"project\":\"1\"}"

-- its provider `gen-prov`, under a key of 32 bytes `P`, with the claims `sub` and `team`
unfoldable pub provider_command : List ℕ
provider_command =
    codes "{\"issuer\":\"https://out.example\",\"key\":\"UFBQUFBQUFBQUFBQUFBQUFBQUFBQUFBQUFBQUFBQUFA\",\"kind\":\"provider\","
    ++ (codes "\"mapping\":{\"attribute.team\":\"assertion.team\",\"google.subject\":\"assertion.sub\"},"
    ++ codes "\"pool\":\"gen-pool\",\"project\":\"1\",\"provider\":\"gen-prov\"}")

-- the role `roles/gen.reader` with `gen.items.get`
unfoldable pub role_command : List ℕ
role_command = codes "{\"kind\":\"role\",\"permissions\":[\"gen.items.get\"],\"role\":\"roles/gen.reader\"}"

-- the policy at `//gen.example/items`, which gives that role to the teams `t0` and `t1`
unfoldable pub policy_command : List ℕ
policy_command =
    codes "{\"bindings\":[{\"members\":["
    ++ (codes "\"principalSet://iam.googleapis.com/projects/1/locations/global/workloadIdentityPools/gen-pool/attribute.team/t0\","
    ++ (codes "\"principalSet://iam.googleapis.com/projects/1/locations/global/workloadIdentityPools/gen-pool/attribute.team/t1\"],"
    ++ codes "\"role\":\"roles/gen.reader\"}],\"kind\":\"policy\",\"resource\":\"//gen.example/items\"}"))
