use Rattle.std.proofs.Common.{refl, length, ◌≡◌, ap}
use Rattle.std.proofs.lemmas.List.{drop_all}
use Rattle.std.proofs.lemmas.List.Elements.{All-drop}
use Rattle.solvable_maps.specs.Uses.{unit}
use Rattle.frac128.specs.declared.fraction.Frac.{Frac}
use Rattle.poly.specs.declared.Term.{Term}
use Rattle.closed_forms.proofs.Alone.{none_alone, alone_here, alone_later, distinct_rest, false_not_true}
use Rattle.closed_forms.proofs.Mixing.{left_at}
use Rattle.closed_forms.proofs.linear_parts.number_of.Goals as goal

pub loop-term-init : goal.loop-term-init
loop-term-init c = record { distinct = c.requires.distinct; number = λ m all x h. h }

pub loop-term-preserved : goal.loop-term-preserved
loop-term-preserved c =
    let ts = c.args.terms.now in
    let i = c.loop-term.term-index in
    let is = left_at ts i c.loop-term-test.true c.term-item.is in
    record {
      distinct = distinct_rest _ _ is c.loop-term.invariant.distinct;
      number =
          λ m all x h. c.loop-term.invariant.number m all x (alone_later _ _ _ m x is
          (λ e. false_not_true (c.if-is_alone.ensures.1 e))
          (All-drop (λ (u : Term Frac). length u.mono ≡ m) i ts all) h);
    }

pub returns-then-is_alone : goal.returns-then-is_alone
returns-then-is_alone c = λ m all.
    let ts = c.args.terms.now in
    let i = c.loop-term.term-index in
    c.loop-term.invariant.number m all _ (alone_here _ _ _ m
    (left_at ts i c.loop-term-test.true c.term-item.is) (c.if-is_alone.ensures.0 refl)
    (All-drop (λ (u : Term Frac). length u.mono ≡ m) i ts all) c.loop-term.invariant.distinct)

pub returns : goal.returns
returns c = λ m all. c.loop-term.invariant.number m all c.zero.result
    (none_alone _ (unit m c.args.variable) c.zero.result
    (ap length (drop_all _ _ c.loop-term-test.false)) c.zero.ensures)
