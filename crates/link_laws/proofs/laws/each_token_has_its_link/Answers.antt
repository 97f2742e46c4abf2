use Rattle.links.specs.State.{content_of}
use Rattle.links.proofs.Journals.{chain_of_number, lawful_kept}
use Rattle.link_laws.proofs.LinkLaws.{issued_for}
use Rattle.link_laws.proofs.laws.each_token_has_its_link.Goals as goal

pub returns-clause-chain : goal.returns-clause-chain
returns-clause-chain c =
    λ config journal number formed lawful within. chain_of_number (content_of config journal) number (lawful_kept config journal formed lawful) within

pub returns-clause-issued : goal.returns-clause-issued
returns-clause-issued c = issued_for
