-- Journals of relations are beginnings of one.
--   more_units         a run that has ended has more units than a beginning behind which a unit comes next
--   enough_budget      none runs out of a budget that an ended one keeps within
use Rattle.std.proofs.Common.{◌≡◌, inl, inr, ℕ, ◌+◌, ◌<◌, ◌≤◌, List, [], ◌∷◌, ◌++◌, map, length, arith, refl, sym, ap, subst, ◌∙◌, Option, Some, None}
use Rattle.algebra.specs.Fraction.{Fraction}
use Rattle.polynomials.specs.Terms.{Terms}
use Rattle.machines.specs.Event.{Event, is_unit}
use Rattle.machines.specs.Journal.{Entry, Did, units_of}
use Rattle.machines.specs.Run.{IsRun}
use Rattle.machines.specs.Work.{WorkToEnd, IsExhausted}
use Rattle.machines.proofs.Runs.{ended_unique}
use Rattle.loops.specs.Program.{Expr, Program}
use Rattle.rounds.specs.Analysis.{fresh, Step, finished, move_of, moves, next}
use Rattle.rounds.specs.Journal as analysis_journal
use Rattle.rounds.specs.Journal.{setting_of, IsFinished}
use Rattle.rounds.proofs.Forms as forms
use Rattle.rounds.proofs.Forms.{forms_are_one}
use Rattle.rounds.proofs.Prefixes.{begins_ended, units-append, units-cons}
use Rattle.corollaries.specs.Journal.{elimination_from, IsBehind, IsEnded, IsOut, IsExhaustedBehind}

map-append : (xs ys : List Event) → map Did (xs ++ ys) ≡ map Did xs ++ map Did ys
map-append [] ys = refl
map-append (x ∷ xs) ys = ap (λ l. Did x ∷ l) (map-append xs ys)

event_or : {S : Type 0} → Event → Option (Event × S) → Event
event_or e None = e
event_or e (Some x) = x.0

-- a run that has ended has more units than a beginning behind which a unit comes next
module _ {S : Type 0} (step : S → Option (Event × S)) (s : S) (before after other : List Entry)
    (last : S) (limit : ℕ) (done : WorkToEnd step s before after last)
    (out : IsExhausted step s limit before other) where
  pub more_units : limit < units_of after
  unfolding IsRun event_or
  more_units =
      let g = begins_ended step done.work.events out.work.events s last out.at done.work.run
      done.ended out.work.run in
      go g.rest g.is g.run
    where
      go : (rest : List Event) → done.work.events ≡ out.work.events ++ rest
          → IsRun step out.at rest last → limit < units_of after
      go [] is r = absurd (let z : None ≡ Some (out.event, out.following) =
          sym done.ended ∙ ap step (sym r) ∙ out.comes in cc)
      go (f ∷ rest) is (w, n, r) =
          let q : ◌≡◌ {A = Option (Event × S)} (Some (f, w)) (Some (out.event, out.following)) =
          sym n ∙ out.comes in
          let same : f ≡ out.event = ap (event_or f) q in
          let a = ap units_of done.work.entries in
          let b = units-append before (map Did done.work.events) in
          let c = ap units_of (ap (map Did) is ∙ map-append out.work.events (f ∷ rest)) in
          let d = units-append (map Did out.work.events) (map Did (f ∷ rest)) in
          let e = units-cons (Did f) (map Did rest) (ap is_unit same ∙ out.unit) in
          let i = ap units_of out.work.entries in
          let j = units-append before (map Did out.work.events) in
          let k = out.exhausted in
          omega (arith, a, b, c, d, e, i, j, k)

step_or : List (Terms Fraction) → Step → List (Terms Fraction)
step_or gs (finished k hs) = hs
step_or gs s = gs

-- finished analyses have one list of entries, and one basis
module _ {At : Type 0} (program : Program (Expr At)) (es fs : List Entry) (j k : ℕ)
    (gs hs : List (Terms Fraction)) (a : IsFinished program es j gs)
    (b : IsFinished program fs k hs) where
  one_analysis : (es ≡ fs) × (gs ≡ hs)
  unfolding step_or
  one_analysis =
      let same : b.follows.forms ≡ a.follows.forms =
      forms_are_one program _ _ b.follows.are_forms a.follows.are_forms in
      let A = setting_of program a.follows.forms None in
      let run = subst (λ l. IsRun (moves (setting_of program l None)) fresh fs b.state) same
      b.follows.run in
      let is = subst (λ l. next (setting_of program l None) b.state ≡ finished k hs) same b.is in
      let u = ended_unique (moves A) fresh a.state b.state es fs a.follows.run
      (ap (move_of A) a.is) run (ap (move_of A) is) in
      (u.0, ap (step_or gs) (sym a.is ∙ ap (next A) u.1 ∙ is))

module _ {At : Type 0} (program : Program (Expr At)) (is : List ℕ) (es fs : List Entry)
    (n : ℕ) (hs : List (Terms Fraction)) (done : IsEnded program is es hs)
    (few : units_of es ≤ n) where
  abbrev m : ℕ
  m = length program.names

  in_analysis : analysis_journal.IsOut program None n fs → ⊥
  in_analysis out =
      let b = done.behind.finished in
      let a = ap units_of b.work.entries in
      let c = units-append done.analysed (map Did b.work.events) in
      forms.enough_budget program None done.analysed fs done.rounds n done.basis done.finished
      (omega (arith, few, a, c)) out

  in_elimination : IsBehind program is (λ gs ks. IsExhaustedBehind m is n gs fs ks) → ⊥
  in_elimination out =
      let one = one_analysis program out.analysed done.analysed out.rounds done.rounds out.basis
      done.basis out.finished done.finished in
      let at = subst (λ gs. IsExhaustedBehind m is n gs fs out.basis) one.0 out.behind in
      let exhausted = subst (λ ks. IsExhaustedBehind m is n done.analysed fs ks) one.1 at in
      let less = more_units (elimination_from m is done.basis).next
      (elimination_from m is done.basis).start done.analysed es fs done.behind.last n
      done.behind.finished exhausted in
      omega (arith, less, few)

  pub enough_budget : IsOut program is n fs → ⊥
  enough_budget (inl out) = in_analysis out
  enough_budget (inr out) = in_elimination out
