use Rattle.std.proofs.Common.{◌≡◌, ℕ, suc, List, [], ◌∷◌, ◌++◌, map, length, nat_eq, refl, ap, ap₂, sym, ◌∙◌, append-nil, Bool, arith}
use Rattle.std.proofs.lemmas.Bool.{ne_eqb}
use Rattle.std.specs.List.{filter_map}
use Rattle.loops.specs.Program.{Expr}
use Rattle.program_model.specs.Program.{Guard, Comparison}
use Rattle.program_text.specs.Guards.{guard_of, said, is_one}
use Rattle.program_text.proofs.GuardLaws.{ended}
use Rattle.program_text.proofs.Answering.{comparison_of}
use Rattle.program_text.proofs.assignments.Reader.guard_of.Goals as goal

guard_by : List (Comparison (Expr ℕ)) → Bool → Guard (Expr ℕ)
guard_by ks b = record { says = ks; alone = b }

one_alone : {A : Type 0} (xs : List A) → nat_eq (length xs) 1 ≡ is_one xs
one_alone [] = refl
one_alone (x ∷ []) = refl
one_alone (x ∷ y ∷ ys) = ne_eqb (suc (suc (length ys))) 1 (λ e. omega (arith, e))

pub returns : goal.returns
unfolding guard_of guard_by
returns c = record {
  guard =
      let f = said c.args.self.now.names.now c.args.text.now in
      let ks = map comparison_of c.loop-part.says.items in
      let ps = c.deref-part-items.result.now in
      let all = c.deref-part-items.ensures.value ∙ c.in_ok-parts.ensures.parts in
      ap₂ guard_by
      (sym (append-nil ks)
      ∙ ap (λ xs. ks ++ filter_map f xs) (sym (ended c.loop-part.part-index ps
      (let past = c.loop-part-test.false in omega (arith, past))))
      ∙ c.loop-part.invariant ∙ ap (filter_map f) all)
      (ap (λ n. nat_eq n 1) (omega (arith, c.len-alone.ensures, c.in_ok-parts.parts.ok))
      ∙ one_alone c.in_ok-parts.parts.items ∙ ap is_one c.in_ok-parts.ensures.parts);
  memory = tt;
}
