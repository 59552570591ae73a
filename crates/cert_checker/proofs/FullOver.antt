-- A full certificate whose polynomials have the variables and orders that they should have is one over the program.
--   full_over     such a one
use Rattle.std.proofs.Common.{ℕ, zero, suc, List, [], ◌∷◌, map, length, get_or, refl, sym, subst}
use Rattle.std.specs.Prelude.{All, Option, Some, None, Vec, vec_len, IfSome}
use Rattle.std.specs.Option.{option_map}
use Rattle.std.specs.declared.alloc.Global.{Global}
use Rattle.std.specs.List.{AllZip}
use Rattle.std.proofs.lemmas.List.Elements.{All-head, All-tail}
use Rattle.algebra.specs.Each.{Each}
use Rattle.algebra.specs.Fraction.{Fraction}
use Rattle.polynomials.specs.Polynomial.{AllArity}
use Rattle.polynomials.specs.Terms.{Terms}
use Rattle.poly.specs.Seen.{terms_each}
use Rattle.poly.proofs.Standing.{arities_over}
use Rattle.solvable_maps.specs.Iterations.{width}
use Rattle.loops.specs.Program.{Expr, Program}
use Rattle.rounds.specs.Form.{front}
use Rattle.cert_form.specs.Cert.{Polys}
use Rattle.cert_form.proofs.Kept.{seen_length}
use Rattle.corollaries.specs.Stage.{no_stage, IsStageOver}
use Rattle.corollaries.specs.Full.{WrittenForm, BranchStages, Kind, orbit, meet, front_of, of_kind, of_option, IsFullOver}
use Rattle.task_lists.specs.Rows.{rows_of}
use Rattle.task_lists.specs.Images.{ArePolys, AreRows, IsFormOver, IsStageIn, IsBranchIn, AreBranchesIn, IsFullIn}
use Rattle.task_lists.specs.View.{form_in, stage_in, branch_in, round_in, full_of}
use Rattle.task_lists.specs.declared.parts.FullForm.{FullForm}
use Rattle.task_lists.specs.declared.parts.FullStage.{FullStage}
use Rattle.task_lists.proofs.Descending.{fall_over, rows_arity, stage_over}
use Rattle.task_lists.specs.declared.parts.FullBranch.{FullBranch}
use Rattle.task_lists.specs.declared.parts.FullCert.{FullCert}

-- what the element at a place is seen as has P, where that past the end has it
seen_at : {A B : Type 0} (see : A → B) (P : B → Type 0) {d : B} → P d → (xs : List A)
    → All (λ x. P (see x)) xs → (i : ℕ) → P (get_or (map see xs) i d)
seen_at see P past [] a i = past
seen_at see P past (x ∷ xs) a zero = All-head (λ y. P (see y)) x xs a
seen_at see P {d = d} past (x ∷ xs) a (suc i) =
    seen_at see P past xs (All-tail (λ y. P (see y)) x xs a) i

weaker : {A : Type 0} (P Q : A → Type 0) → ((x : A) → P x → Q x) → (xs : List A) → All P xs
    → All Q xs
weaker P Q f xs a = λ i d l. f (get_or xs i d) (a i d l)

nothing_over : (k m : ℕ) → IsStageOver k m no_stage
unfolding Each
nothing_over k m = record { list = tt; gens = tt; pairs = tt; out = tt; links = tt }

-- how many variables a stage of this kind eliminates
abbrev kind_front : WrittenForm → Kind → ℕ
kind_front f orbit = front (length f.base)
kind_front f meet = 1

module _ (m : ℕ) where
  no_arity : AllArity {A = Fraction} m []
  unfolding Each
  no_arity = tt

  abbrev RowAt : List (List (Terms Fraction)) → Type 0
  RowAt rows = (i : ℕ) → AllArity m (get_or rows i [])

  block_rows : (rows : Vec Polys Global) → AreRows m rows → RowAt (rows_of rows.items)
  block_rows rows a = seen_at (λ row. terms_each row.items) (AllArity m) no_arity rows.items
      (weaker (ArePolys m) (λ row. AllArity m (terms_each row.items))
      (λ row h. arities_over m row.items h) rows.items a)

  abbrev FormHas : WrittenForm → Type 0
  FormHas f = AllArity (width (length f.base) m) f.polys

  no_form : FormHas (record { base = []; polys = [] })
  unfolding Each
  no_form = tt

  form_has : (f : FullForm) → IsFormOver m f → FormHas (form_in f)
  form_has f h = subst (λ n. AllArity (width n m) (terms_each f.polys.items))
      (sym (seen_length _ f.base)) (arities_over (width (vec_len f.base) m) f.polys.items h.polys)

  abbrev no_branch : BranchStages
  no_branch = record { orbit_stage = no_stage; meet_stage = None }

  meet_over : (s : Option FullStage) → IfSome s (IsStageIn 1 m)
      → IsStageOver 1 m (of_option (option_map stage_in s))
  meet_over None h = nothing_over 1 m
  meet_over (Some s) h = stage_over 1 m s h

  kinds_over : (f : FullForm) (b : FullBranch) → IsBranchIn m f b → (kind : Kind)
      → IsStageOver (kind_front (form_in f) kind) m (of_kind (branch_in b) kind)
  kinds_over f b h orbit =
      subst (λ n. IsStageOver (front n) m (stage_in b.orbit)) (sym (seen_length _ f.base))
      (stage_over (front (vec_len f.base)) m b.orbit h.orbit)
  kinds_over f b h meet = meet_over b.meet h.meet

  branches_over : (fs : List FullForm) (bs : List FullBranch) → AllZip (IsBranchIn m) fs bs
      → (b : ℕ) (kind : Kind)
      → IsStageOver (kind_front (get_or (map form_in fs) b (record { base = []; polys = [] })) kind)
      m
      (of_kind (get_or (map branch_in bs) b no_branch) kind)
  branches_over [] [] a b orbit = nothing_over (front 0) m
  branches_over [] [] a b meet = nothing_over 1 m
  branches_over [] (x ∷ bs) a b kind = absurd a
  branches_over (f ∷ fs) [] a b kind = absurd a
  branches_over (f ∷ fs) (x ∷ bs) a zero kind = kinds_over f x a.0 kind
  branches_over (f ∷ fs) (x ∷ bs) a (suc b) kind = branches_over fs bs a.1 b kind

  -- no round has any
  none_over : (fs : List FullForm) (b : ℕ) (kind : Kind)
      → IsStageOver (kind_front (get_or (map form_in fs) b (record { base = []; polys = [] })) kind)
      m
      (of_kind (get_or [] b no_branch) kind)
  none_over fs b orbit = nothing_over _ m
  none_over fs b meet = nothing_over 1 m

pub full_over : {At : Type 0} (program : Program (Expr At)) (c : FullCert)
    → IsFullIn (length program.names) c → IsFullOver program (full_of c)
full_over program c h =
    let m = length program.names in
    record {
      basis = record {
        arities = arities_over m c.basis.items h.basis;
        cofactor_arities = seen_at (λ s. rows_of s.items) (RowAt m) (λ i. no_arity m) c.steps.items
            (weaker (AreRows m) (λ s. RowAt m (rows_of s.items)) (block_rows m) c.steps.items
            h.steps);
      };
      forms = seen_at form_in (FormHas m) (no_form m) c.forms.items
          (weaker (IsFormOver m) (λ f. FormHas m (form_in f)) (form_has m) c.forms.items h.forms);
      start_out = fall_over m c.start.out.items (record {}) (λ p. refl) h.out;
      start_links = rows_arity m c.start.links.items h.links;
      stages = λ r. seen_at round_in (λ row. (b : ℕ) (kind : Kind)
          → IsStageOver (front_of (full_of c) b kind) m (of_kind (get_or row b (no_branch m)) kind))
          (none_over m c.forms.items) c.rounds.items (weaker (AreBranchesIn m c.forms.items)
          (λ round. (b : ℕ) (kind : Kind) → IsStageOver (front_of (full_of c) b kind) m
          (of_kind (get_or (round_in round) b (no_branch m)) kind))
          (λ round a. branches_over m c.forms.items round.items a) c.rounds.items h.rounds) r;
    }
