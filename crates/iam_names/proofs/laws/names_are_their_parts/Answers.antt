use Rattle.iam_names.proofs.JoinedLemmas.{account_joined, permission_joined, resource_joined, role_joined}
use Rattle.iam_names.proofs.laws.names_are_their_parts.Goals as goal

pub returns-clause-accounts : goal.returns-clause-accounts
returns-clause-accounts c = account_joined

pub returns-clause-permissions : goal.returns-clause-permissions
returns-clause-permissions c = permission_joined

pub returns-clause-roles : goal.returns-clause-roles
returns-clause-roles c = role_joined

pub returns-clause-resources : goal.returns-clause-resources
returns-clause-resources c = resource_joined
