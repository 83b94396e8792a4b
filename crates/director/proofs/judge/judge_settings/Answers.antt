-- `judge::judge_settings` meets its contract: settings that pass the four tests are accepted.
use Rattle.std.proofs.Common.{◌≡◌, sym, ◌∙◌, Ok}
use Rattle.director.specs.Judge.{settings_judged}
use Rattle.director.proofs.judge.judge_settings.Goals as goal

pub returns : goal.returns
unfolding settings_judged
returns c =
    let sizes = sym c.are_sizes_right.ensures ∙ c.if-not-are_sizes_right.false in
    let right = sym c.is_service_right.ensures ∙ c.if-not-is_service_right.false in
    let set = sym c.all_keep.ensures ∙ c.if-not-all_keep.false in
    let new = sym c.all_keep-2.ensures ∙ c.if-not-all_keep-2.false in
    let accepted : settings_judged c.args.service c.args.servers.now c.args.row.now ≡ Ok tt = rw (sizes, right, set, new) in
    sym accepted
