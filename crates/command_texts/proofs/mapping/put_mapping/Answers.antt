use Rattle.std.proofs.Common.{◌≡◌, List, ℕ, ap, ◌∙◌, codes}
use Rattle.std.proofs.lemmas.Result.{IfOk-weaker}
use Rattle.serde_json.specs.Data.{string, put}
use Rattle.serde_json.specs.View.{members_view}
use Rattle.command_texts.proofs.MappingMembers.{without_subject, groups_put, groups_none, subject_put}
use Rattle.command_texts.proofs.mapping.put_mapping.Goals as goal
use Rattle.command_texts.proofs.mapping.put_mapping.Goals.{in-Some+in_ok-put_text, in_default}

pub returns : goal.returns
returns c =
    let mapping = c.args.mapping.now in
    let old = members_view c.put_attributes.new.members.entries in
    let before : members_view c.match-mapping.members.entries ≡ without_subject mapping =
    elim c.match-mapping.branch [
      | in-Some+in_ok-put_text w ↦
          let new = w.in_ok-put_text.ensures ∙ ap (λ (text : List ℕ). put (codes "google.groups") (string text) old) w.as_str.ensures in
          rw w.members-is (groups_put mapping w.in-Some.groups old _ w.in-Some.is c.in_ok-put_attributes.ensures new)
      | in_default w ↦ rw w.members-is (groups_none mapping old w.in_default.is c.in_ok-put_attributes.ensures)
    ] in
    let subject = ap (λ (text : List ℕ). put (codes "google.subject") (string text) (members_view c.match-mapping.members.entries)) c.as_str-2.ensures in
    IfOk-weaker c.put_text-2.result _ _ (λ done new. new ∙ subject ∙ subject_put mapping _ before) c.put_text-2.ensures
