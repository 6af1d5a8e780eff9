-- `sheet::steps::Draft::take_line` meets its contract: what the line says is taken as it says. Assumes nothing.
use Rattle.std.proofs.Common.{◌≡◌, sym, ◌∙◌, ap, ℤ, w64, rules, to_z-of_z}
use Rattle.std.proofs.lemmas.Result.{err_from_is_err_and}
use Rattle.refusal.specs.Said.{gives, said, number_told}
use Rattle.refusal.proofs.Said.{number_positive, not_zero}
use Rattle.sheet_lines.specs.declared.Form.TheVariants as F
use Rattle.sheet_lines.specs.Form.{line_said}
use Rattle.sheet.specs.Sheet.{if_taken, valued, line_taken}
use Rattle.sheet.proofs.Kept.{Ready, line_ready}
use Rattle.sheet.proofs.steps.Draft.take_line.Goals as goal
use Rattle.sheet.proofs.steps.Draft.take_line.Goals.{In-Member, In-Floor, In-Effect}

-- what the line says, by its form
member_said : (c : In-Member) → gives (F.Member c.in-Member.code) ≡ line_said c.args.self.now.due c.args.line.now
unfolding said
member_said c = ap gives (sym c.in-Member.is) ∙ c.in_ok-form.ensures

floor_said : (c : In-Floor) → gives (F.Floor c.in-Floor.entry) ≡ line_said c.args.self.now.due c.args.line.now
unfolding said
floor_said c = ap gives (sym c.in-Floor.is) ∙ c.in_ok-form.ensures

effect_said : (c : In-Effect) → gives (F.Effect c.in-Effect.place c.in-Effect.newtons) ≡ line_said c.args.self.now.due c.args.line.now
unfolding said
effect_said c = ap gives (sym c.in-Effect.is) ∙ c.in_ok-form.ensures

pub returns-in_err-form : goal.returns-in_err-form
unfolding line_taken valued if_taken said number_told
returns-in_err-form c =
    let p = err_from_is_err_and c.from_residual.result c.from_residual.ensures.1 in
    rw (p.1, p.2, ← c.in_err-form.ensures, not_zero (number_positive c.in_err-form.field-0.0))

pub open_member-requires : goal.open_member-requires
unfolding Ready
open_member-requires c = line_ready c.args.self.now c.args.line.now (sym (member_said (goal.at.open_member-requires c).In-Member)) c.requires

pub enter_line-requires : goal.enter_line-requires
unfolding Ready
enter_line-requires c = line_ready c.args.self.now c.args.line.now (sym (floor_said (goal.at.enter_line-requires c).In-Floor)) c.requires

pub take_effect-requires : goal.take_effect-requires
unfolding Ready
take_effect-requires c = (line_ready c.args.self.now c.args.line.now (sym (effect_said (goal.at.take_effect-requires c).In-Effect)) c.requires).0

pub returns-in-Member : goal.returns-in-Member
unfolding line_taken
returns-in-Member c = c.open_member.ensures ∙ ap (valued c.args.self.now) (member_said (goal.at.returns-in-Member c).In-Member)

pub returns-in-Floor : goal.returns-in-Floor
unfolding line_taken
returns-in-Floor c = c.enter_line.ensures ∙ ap (valued c.args.self.now) (floor_said (goal.at.returns-in-Floor c).In-Floor)

pub returns-in-Effect : goal.returns-in-Effect
unfolding line_taken
returns-in-Effect c =
    c.take_effect.ensures
    ∙ (ap (λ (z : ℤ). valued c.args.self.now (gives (F.Effect c.in-Effect.place z))) (to_z-of_z {w = w64} (search rules)) ∙ ap (valued c.args.self.now) (effect_said (goal.at.returns-in-Effect c).In-Effect))
