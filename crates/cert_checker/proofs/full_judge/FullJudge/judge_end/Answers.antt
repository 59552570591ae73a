use Rattle.std.proofs.Common.{[], refl, sym, ap, subst₂, ◌∙◌, true≢false}
use Rattle.std.proofs.lemmas.List.{length-map}
use Rattle.algebra.specs.Each.{Each}
use Rattle.algebra.specs.Fraction.{ℚ}
use Rattle.polynomials.specs.Terms.{AllSame}
use Rattle.poly.specs.Seen.{terms_each}
use Rattle.corollaries.specs.Full.{before}
use Rattle.task_lists.specs.View.{round_in, full_of}
use Rattle.cert_checker.specs.FullJudge.{program_by}
use Rattle.cert_checker.proofs.full_judge.FullJudge.judge_end.Goals as goal

pub returns-then-are_equal-clause-holds : goal.returns-then-are_equal-clause-holds
unfolding Each
returns-then-are_equal-clause-holds c =
    let program = program_by c.args.self.now in
    let cert = c.args.self.now.cert.now in
    let rounds = cert.rounds in
    let same = ap terms_each c.deref.ensures.value ∙ c.list_before.ensures.before
    ∙ ap (before program (full_of cert)) (c.len.ensures ∙ rounds.ok.0
    ∙ sym (length-map rounds.items round_in)) in
    let ends = ap terms_each c.deref-2.ensures.value in
    (subst₂ (AllSame ℚ) same ends (c.are_equal.ensures.0 c.if-are_equal.true), tt)

pub returns-else-are_equal-clause-stops : goal.returns-else-are_equal-clause-stops
unfolding Each
returns-else-are_equal-clause-stops c =
    let program = program_by c.args.self.now in
    let cert = c.args.self.now.cert.now in
    let rounds = cert.rounds in
    let same = ap terms_each c.deref.ensures.value ∙ c.list_before.ensures.before
    ∙ ap (before program (full_of cert)) (c.len.ensures ∙ rounds.ok.0
    ∙ sym (length-map rounds.items round_in)) in
    let ends = ap terms_each c.deref-2.ensures.value in
    record {
      earlier = [];
      later = [];
      is = refl;
      holds = tt;
      cause = λ h. true≢false (sym (c.are_equal.ensures.1 (subst₂ (AllSame ℚ) (sym same) (sym ends)
          h)) ∙ c.if-are_equal.false);
    }
