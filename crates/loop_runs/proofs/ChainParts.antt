-- The parts of chains that are made by code.
--   name_plain, name_short, name_new   a name at a place is a plain and short word, and none of those before it
--   taken_first                the first of a list, and the others
--   further_is, further_formed     a further loop that is made
--   stage_alike, stage_is      a stage that is made;  stages_alike, stages_same: behind others
--   loop_is_further            a loop behind the first is that of its branches
--   kept_alike                 what the type keeps of the stages behind the first loop
use Rattle.std.proofs.Common.{◌≡◌, ℕ, ◌<◌, ◌≤◌, List, [], ◌∷◌, ◌++◌, take, get_or, length, refl, sym, ap, ap₂, subst, ◌∙◌, arith, Option, Some, None, IsTrue}
use Rattle.std.specs.List.{remove, slice_index_or}
use mathlib.Core.List.{is_set}
use native.Mathlib.Nat.{ℕ_set}
use Rattle.std.specs.Global.{Vec}
use Rattle.std.proofs.Math.Logic.{∥∥₁_elim}
use Rattle.std.proofs.lemmas.List.{get_or-take, length-take-le, map_push, append_assoc}
use Rattle.std.proofs.lemmas.List.Elements.{All-push}
use Rattle.loop_model.specs.Names.{AreNames, place_of}
use Rattle.loop_model.specs.Words.{is_plain_word}
use Rattle.loop_model.proofs.Places.{place_within, place_stands}
use Rattle.loops.specs.Limits.{most_bytes}
use Rattle.loops.specs.Program as program
use Rattle.loops.specs.Program.{Expr, Program}
use Rattle.loop_model.specs.Parts.{parts}
use Rattle.loop_model.specs.View.{program_of}
use Rattle.loop_model.specs.declared.loop_.Loop.{Loop}
use Rattle.loop_model.specs.declared.statement.Init.{Init}
use Rattle.loop_model.specs.declared.statement.Statement.{Statement}
use Rattle.loops.specs.Chain as spec
use Rattle.loops.specs.Chain.{loop_of}
use Rattle.loop_runs.specs.Parts.{IsFurther, IsStageOf, AreStagesOf, AreFurther, IsLoop, branches_in, stage_of, stages_in, stage_read, stages_read}
use Rattle.loop_runs.specs.declared.stage.Stage.{Stage}
use Rattle.loop_runs.specs.declared.stage.StageParts.{StageParts}
use Rattle.loop_runs.specs.declared.chain.Chain.{Chain}

module _ (names : List (List ℕ)) (are : AreNames names) (i : ℕ) (l : i < length names) where
  abbrev w : List ℕ
  w = get_or names i []

  pub name_plain : IsTrue (is_plain_word (get_or names i []))
  name_plain = are.plain i [] l

  pub name_short : length (get_or names i []) ≤ most_bytes
  name_short = are.short i [] l

  pub name_new : place_of (take i names) (get_or names i []) ≡ None
  name_new = go (place_of (take i names) w) refl
    where
      go : (o : Option ℕ) → place_of (take i names) w ≡ o → o ≡ None
      go None e = refl
      go (Some j) e =
          let short = place_within (take i names) w j e in
          let within : j < i = (let s = length-take-le i names (omega (arith, l)) in
          omega (arith, short, s)) in
          let is : get_or names j [] ≡ w = sym (get_or-take i names j [] within)
          ∙ place_stands (take i names) w j e in
          absurd (are.differ j i [] within l is)

-- ---- the first of a list, taken out
pub taken_first : {X : Type 0} (xs ys : List X) (x : X) → 0 < length xs → x ≡ slice_index_or xs 0 x
    → ys ≡ remove xs 0 → xs ≡ x ∷ ys
taken_first [] ys x l v i = absurd (omega (arith, l))
taken_first (z ∷ zs) ys x l v i = ap₂ ◌∷◌ (sym v) (sym i)

-- ---- a further loop
module _ (first : Loop) (ns ls : List (List ℕ)) (start : List Init) (bs : List (Vec Statement))
    (names_are : ns ≡ (program_of first).names) (locals_are : ls ≡ (program_of first).locals)
    (nothing_set : start ≡ []) where
  pub further_is : parts ns ls start bs ≡ loop_of (program_of first) (branches_in bs)
  further_is = λ i. parts (names_are i) (locals_are i) (nothing_set i) bs

  pub further_formed : IsLoop (loop_of (program_of first) (branches_in bs))
      → IsLoop (parts ns ls start bs)
  further_formed w = subst IsLoop (sym further_is) w

-- ---- a stage
module _ (p : Program (Expr ℕ)) where
  made_further : (k : Loop) (bs : List (List (program.Statement (Expr ℕ))))
      → program_of k ≡ loop_of p bs → IsFurther p k
  made_further k bs e = (
    ap (λ (q : Program (Expr ℕ)). q.names) e,
    ap (λ (q : Program (Expr ℕ)). q.locals) e,
    ap (λ (q : Program (Expr ℕ)). length q.init) e,
  )

  module _ (g : Stage) (b : List (program.Statement (Expr ℕ)))
      (bs : List (List (program.Statement (Expr ℕ))))
      (once : program_of g.code ≡ loop_of p (b ∷ [])) (body : program_of g.body
      ≡ loop_of p bs) where
    pub stage_alike : IsStageOf p g
    stage_alike = (
      made_further g.code (b ∷ []) once,
      ap (λ (q : Program (Expr ℕ)). length q.branches) once,
      made_further g.body bs body,
    )

    pub stage_is : stage_of g ≡ record { code = b; branches = bs }
    stage_is = λ i. record { code = get_or (once i).branches 0 []; branches = (body i).branches }

module _ (first : Loop) (gs : List Stage) (g : Stage) where
  pub stages_alike : AreFurther first gs → IsStageOf (program_of first) g
      → AreFurther first (gs ++ g ∷ [])
  stages_alike a h = All-push (IsStageOf (program_of first)) gs g a h

  -- the stages made, and what is left
  pub stages_same : (x : StageParts) (xs ys : List StageParts) (all : List (spec.Stage (Expr ℕ)))
      → stage_of g ≡ stage_read x → xs ≡ x ∷ ys → stages_in gs ++ stages_read xs ≡ all
      → stages_in (gs ++ g ∷ []) ++ stages_read ys ≡ all
  stages_same x xs ys all is e h =
      ap (λ ss. ss ++ stages_read ys)
      (map_push stage_of gs g ∙ ap (λ (z : spec.Stage (Expr ℕ)). stages_in gs ++ z ∷ []) is)
      ∙ append_assoc (stages_in gs) (stage_read x ∷ []) (stages_read ys)
      ∙ ap (λ zs. stages_in gs ++ stages_read zs) (sym e) ∙ h

-- ---- what the type keeps
nothing_in : {X : Type 0} (xs : List X) → length xs ≡ 0 → xs ≡ []
nothing_in [] e = refl
nothing_in (x ∷ xs) e = absurd (omega (arith, e))

-- a further loop is that of its branches
pub loop_is_further : (p : Program (Expr ℕ)) (k : Loop) → IsFurther p k
    → program_of k ≡ loop_of p (program_of k).branches
loop_is_further p k h = λ i. record {
  names = h.0 i;
  locals = h.1 i;
  init = nothing_in (program_of k).init h.2 i;
  branches = (program_of k).branches;
}

names_prop : (xs ys : List (List ℕ)) → IsProp (xs ≡ ys)
names_prop xs ys = is_set (is_set ℕ_set) xs ys

count_prop : (i j : ℕ) → IsProp (i ≡ j)
count_prop i j = hlevel (ℕ_set)

alike_prop : (p : Program (Expr ℕ)) (ls : List Stage) → IsProp (AreStagesOf p ls)
alike_prop p ls = hlevel (names_prop, count_prop)

pub kept_alike : (c : Chain) → AreFurther c.first c.further.items
kept_alike c = ∥∥₁_elim c.alike (alike_prop (program_of c.first) c.further.items) (λ x. x)
