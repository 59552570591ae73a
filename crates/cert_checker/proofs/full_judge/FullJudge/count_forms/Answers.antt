use Rattle.std.proofs.Common.{◌≡◌, ◌+◌, ◌<◌, ℕ, suc, length, ap, subst, subst₂, ◌∙◌, arith}
use Rattle.loops.specs.Program.{Expr, Program}
use Rattle.rounds.specs.BranchMap.{map_of}
use Rattle.poly.specs.Seen.{terms_each}
use Rattle.expansion.specs.Counts.{IsCount}
use Rattle.expansion.specs.Lengths.{list_length, next_lengths}
use Rattle.loop_model.proofs.BranchMaps.{maps_count}
use Rattle.corollaries.specs.Full.{form_of}
use Rattle.corollaries.specs.Parts.{in_forms}
use Rattle.corollaries.specs.Stage.{below}
use Rattle.cert_checker.specs.FullJudge.{program_by, cert_by}
use Rattle.cert_checker.specs.LongParts.{IsTotal, part_terms}
use Rattle.cert_checker.proofs.Begun.{formed, polys_are}
use Rattle.cert_checker.proofs.Counted as counts
use Rattle.cert_checker.proofs.LongLaws.{none_none}
use Rattle.cert_checker.proofs.MapsLaws.{branch_here, map_here}
use Rattle.cert_checker.proofs.PartTotals.{number_next, number_beyond}
use Rattle.cert_checker.proofs.full_judge.FullJudge.count_forms.Goals as goal
use Rattle.cert_checker.proofs.full_judge.FullJudge.count_forms.Goals.{After-deref, After-with_form}

-- the branch of this number has a form
module _ (c : After-deref) where
  here : c.loop-branch.branch < length (program_by c.args.self.now).branches
  here =
      branch_here _ c.requires.judge.maps c.deref-images-items.ensures.value _
      c.loop-branch-test.true

-- what is counted of it
module _ (c : After-with_form) where
  abbrev program : Program (Expr ℕ)
  program = program_by c.args.self.now

  abbrev at_deref : After-deref
  at_deref = (goal.at.After-with_form c).After-deref

  map_is : terms_each c.deref.result.now ≡ map_of program (suc c.loop-branch.branch)
  map_is = ap terms_each c.deref.ensures.value
      ∙ counts.map_is program c.loop-branch.branch c.images-item.result (map_here program
      c.requires.judge.maps c.deref-images-items.ensures.value _ c.loop-branch-test.true
      c.images-item.is)

  polys_is : terms_each c.deref-in-loop-branch.result.now
      ≡ (form_of (cert_by c.args.self.now) c.loop-branch.branch).polys
  polys_is = ap terms_each c.deref-in-loop-branch.ensures.value
      ∙ polys_are c.requires.judge (here at_deref) c.index.ensures

  counted : IsCount (c.loop-branch.terms
      + part_terms program (cert_by c.args.self.now) (in_forms c.loop-branch.branch))
      c.with_form.result
  counted = subst₂ (λ qs ps. IsCount (c.loop-branch.terms + (list_length qs ps + next_lengths ps))
      c.with_form.result) map_is polys_is c.with_form.ensures

pub index-requires : goal.index-requires
index-requires c =
    let l = formed c.requires.judge (here (goal.at.index-requires c).After-deref) in
    let held = c.args.self.now.cert.now.forms.ok.0 in omega (arith, l, held)

pub returns-in-None-clause-beyond : goal.returns-in-None-clause-beyond
returns-in-None-clause-beyond c =
    let e = (goal.at.returns-in-None-clause-beyond c).After-with_form in
    number_beyond _ 0 c.loop-branch.branch c.loop-branch.invariant (counted e) _ (here (at_deref e))
    (none_none c.in-None.is)

pub loop-branch-preserved : goal.loop-branch-preserved
loop-branch-preserved c =
    let e = (goal.at.loop-branch-preserved c).After-with_form in
    number_next _ 0 c.loop-branch.branch c.loop-branch.invariant (counted e) c.in-Some.more
    c.in-Some.is

pub returns-clause-total : goal.returns-clause-total
returns-clause-total c =
    let program = program_by c.args.self.now in
    let n = maps_count program _ c.requires.judge.maps in
    let size = ap length c.deref-images-items.ensures.value in
    let last = c.loop-branch.auto.branch-end in
    let same : c.loop-branch.branch ≡ length program.branches =
    omega (arith, c.loop-branch-test.false, n, size, last) in
    subst (λ k. IsTotal (λ b. part_terms program (cert_by c.args.self.now) (in_forms b)) 0
    (below k) c.loop-branch.terms) same c.loop-branch.invariant
