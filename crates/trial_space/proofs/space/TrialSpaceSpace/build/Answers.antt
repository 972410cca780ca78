use Rattle.std.proofs.Common.{◌-◌, pos, get_or, ap, subst, arith}
use Rattle.plain_term.specs.declared.item.Item.TheVariants as item
use Rattle.script_grammar.specs.declared.command.Command.TheVariants.{Process}
use Rattle.script_grammar.specs.declared.command.Verb.TheVariants.{Set}
use Rattle.script_grammar.specs.declared.limits.TheConstants.{LEVELS}
use Rattle.space_api.specs.Calls.{one_term}
use Rattle.space_api.proofs.Naming.{builds}
use Rattle.space_api.proofs.Proper.{becomes-proper}
use Rattle.trial_space.specs.Items.{NamesRegister, weight}
use Rattle.trial_space.proofs.Weights.{weight-term, some-items, names-register}
use Rattle.trial_space.proofs.States.{build-lacks, build-holds, code-few}
use Rattle.trial_space.proofs.space.TrialSpaceSpace.build.Goals as goal

pub returns-then-weight-gt1-clause-becomes : goal.returns-then-weight-gt1-clause-becomes
returns-then-weight-gt1-clause-becomes c = λ s t h has is.
    let made = builds c.args.names.now c.args.code.now t is c.requires.term.named in
    becomes-proper s (Process c.args.seat.pid (Set c.args.r)) (one_term t) c.args.names.now h.1 has made 0 _ _
    (build-lacks c.args.self.now.alive c.args.self.now.registers s c.args.seat h.0 c.requires.sits c.args.r t c.args.names.now c.args.code.now (c.weigh-weight.result - 1) is c.requires.term.few
    (omega (arith, c.if-weight-gt1.true, c.weigh-weight.ensures)) (omega (arith, c.if-weight-gt1.true)))

pub bounds-code-0 : goal.bounds-code-0
bounds-code-0 c =
    let t = c.requires.term in
    some-items c.args.code.now (omega (arith, weight-term c.args.names.now t.term (code-few c.args.names.now t.term c.args.code.now t.is t.few), ap weight t.is.items))

pub meant-requires : goal.meant-requires
meant-requires c =
    let t = c.requires.term in
    subst (λ code. NamesRegister (get_or code 0 (item.Int (pos 0)))) t.is.items (names-register c.args.names.now LEVELS t.term (item.Int (pos 0)) t.is.allowed)

pub returns-clause-becomes : goal.returns-clause-becomes
returns-clause-becomes c = λ s t h has is.
    let made = builds c.args.names.now c.args.code.now t is c.requires.term.named in
    becomes-proper s (Process c.args.seat.pid (Set c.args.r)) (one_term t) c.args.names.now h.1 has made 0 _ _
    (build-holds c.args.self.now.alive c.args.self.now.registers s c.args.seat h.0 c.requires.sits c.args.r t c.args.names.now c.args.code.now (item.Int (pos 0)) c.meant.result is c.requires.term.few
    c.meant.ensures (omega (arith, c.if-weight-gt1.false, c.weigh-weight.ensures)))
