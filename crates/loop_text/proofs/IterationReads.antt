-- The loop of the sequences that were read.
--   no_places, one_place_more     places from the first on
--   starts_step, total_step, total_within     the place of the first variable of each sequence, one sequence more
--   laid, some_variable           the sequences are laid out, and there is a variable
--   loop_is, loop_formed, loop_within, is_loop_of     the parts make their loop
use Rattle.std.proofs.Common.{◌≡◌, ◌<◌, ◌≤◌, ℕ, zero, suc, ◌+◌, List, [], ◌∷◌, ◌++◌, length, map, take, get_or, refl, sym, ap, ap₂, subst, ◌∙◌, arith, All, Vec, Global}
use Rattle.std.proofs.lemmas.List.{take_more}
use Rattle.loops.specs.Limits.{most_bytes, IsWithinLimits}
use Rattle.loops.specs.Program.{Expr}
use Rattle.loops.specs.WellFormed.{IsWellFormed}
use Rattle.loop_model.specs.Names.{AreNames}
use Rattle.loop_model.specs.ExpressionView.{expr_of}
use Rattle.loop_model.specs.declared.expr.Expr as code
use Rattle.loop_model.specs.Parts.{equation_of, statement_of, parts}
use Rattle.loop_model.specs.View.{program_of}
use Rattle.loop_model.specs.declared.statement.Statement.{Statement}
use Rattle.loops.specs.Sequences.{Sequence, size}
use Rattle.loops.specs.Turning as turning
use Rattle.loops.specs.Turning.{places}
use Rattle.loops.proofs.RecurrencesFormed.{program_formed}
use Rattle.loop_text.specs.LoopLayout.{total, starts, AreLaid}
use Rattle.loop_text.specs.SeqReader.{sequences_in}
use Rattle.loop_text.proofs.LoopLayout.{total_more, starts_more, names_are, sequence_names_are, given_are, size_is, iteration_is, shown_are, formed_laid, limits_laid}
use Rattle.loop_text.specs.declared.sequences.Seqs.{Seqs}
use Rattle.loop_text.specs.declared.sequence_firsts.Firsts.{Firsts}
use Rattle.loop_text.specs.Firsts.{values_in, behind_all, AreMade}
use Rattle.loop_text.specs.SequenceSeen.{IsIteration, IsLoopOf}
use Rattle.loop_text.proofs.FirstReads.{few_orders}
use Rattle.loop_text.proofs.NextReads.{total_take}

pub no_places : [] ≡ places 0 0
unfolding places
no_places = refl

places_suc : (i n : ℕ) → places i (suc n) ≡ places i n ++ (i + n) ∷ []
unfolding places
places_suc i zero = ap (λ k. k ∷ []) (omega arith)
places_suc i (suc n) = ap (λ l. i ∷ l)
    (places_suc (suc i) n ∙ ap (λ k. places (suc i) n ++ k ∷ []) (omega arith))

pub one_place_more : (n : ℕ) → places 0 n ++ n ∷ [] ≡ places 0 (n + 1)
one_place_more n =
    let e : suc n ≡ n + 1 = omega arith in
    let z : 0 + n ≡ n = omega arith in
    ap (λ k. places 0 n ++ k ∷ []) (sym z) ∙ sym (places_suc 0 n)
    ∙ ap (places 0) e

-- ---- the first places
module _ (rs : List ℕ) (i : ℕ) (l : i < length rs) where
  pub starts_step : (out news : List ℕ) (var : ℕ) → out ≡ starts 0 (take i rs)
      → var ≡ total (take i rs) → news ≡ out ++ var ∷ [] → news ≡ starts 0 (take (i + 1) rs)
  starts_step out news var a b c =
      let z : total (take i rs) ≡ 0 + total (take i rs) = omega arith in
      c ∙ ap₂ (λ o v. o ++ v ∷ []) a (b ∙ z)
      ∙ sym (starts_more 0 (take i rs) (get_or rs i 0))
      ∙ ap (starts 0) (sym (take_more rs i 0 l))

  pub total_step : (var : ℕ) → var ≡ total (take i rs)
      → var + get_or rs i 0 ≡ total (take (i + 1) rs)
  total_step var b =
      ap (λ v. v + get_or rs i 0) b ∙ sym (total_more (take i rs) (get_or rs i 0))
      ∙ ap total (sym (take_more rs i 0 l))

  pub total_within : (var : ℕ) → var ≡ total (take i rs) → var + get_or rs i 0 ≤ total rs
  total_within var b = let a = total_take rs i l in omega (arith, a, b)

-- ---- the loop
module _ (f : Firsts) (m : AreMade f) (some : 0 < length f.sequences) (ns : List (Expr ℕ))
    (ts : List code.Expr) (t : IsIteration f ns ts) where
  abbrev ws : List (List ℕ)
  ws = f.sequences

  pub laid : AreLaid f.sequences f.orders.items (values_in f) ns
  laid = record { some = some; orders = m.count; nexts = t.count; values = m.values; over = t.over }

  abbrev qs : List (Sequence (Expr ℕ))
  qs = sequences_in (behind_all f ns)

  pub some_variable : 0 < length f.variables
  some_variable =
      let a = few_orders f.orders.items m.values.some in
      let b = m.count in let c = m.values.count in let d = m.long in
      omega (arith, a, b, c, d, some)

  module _ (statements : Vec Statement Global) (branches : Vec (Vec Statement Global) Global)
      (s : Statement) (targets : s.targets.items ≡ places 0 (length f.variables))
      (values : s.values.items ≡ ts) (one : statements.items ≡ s ∷ [])
      (branch : branches.items ≡ statements ∷ []) (locals : List (List ℕ)) (none : locals ≡ [])
    where
      pub loop_is : parts f.variables locals f.start.items branches.items
          ≡ turning.program_of (sequences_in (behind_all f ns))
      loop_is =
          let names_same : f.variables ≡ turning.names qs =
          m.names ∙ sym (names_are ws f.orders.items (values_in f) ns laid) in
          let given_same : map equation_of f.start.items
          ≡ turning.equations 0 (turning.all_given qs) =
          m.start ∙ ap (turning.equations 0)
          (sym (given_are ws f.orders.items (values_in f) ns laid)) in
          let targets_same : s.targets.items ≡ places 0 (size qs) =
          targets ∙ ap (places 0) (m.long
          ∙ sym (size_is ws f.orders.items (values_in f) ns laid)) in
          let values_same : map expr_of s.values.items ≡ turning.iteration 0 qs =
          ap (map expr_of) values ∙ t.is
          ∙ sym (iteration_is ws f.orders.items (values_in f) ns laid) in
          let body : map statement_of statements.items ≡ turning.step qs ∷ [] =
          ap (map statement_of) one ∙ (λ i. (record {
            targets = targets_same i;
            values = values_same i;
          } ∷ [])) in
          λ i. record {
            names = names_same i;
            locals = none i;
            init = given_same i;
            branches = (ap (map (λ (b : Vec Statement Global). map statement_of b.items)) branch
                ∙ ap (λ l. l ∷ []) body) i;
          }

      pub loop_formed : IsWellFormed (parts f.variables locals f.start.items branches.items)
      loop_formed = subst IsWellFormed (sym loop_is)
          (program_formed qs (formed_laid ws f.orders.items (values_in f) ns laid))

      pub loop_within : AreNames f.variables
          → IsWithinLimits (parts f.variables locals f.start.items branches.items)
      loop_within are = subst IsWithinLimits (sym loop_is)
          (limits_laid ws f.orders.items (values_in f) ns laid
          (subst (All (λ w. length w ≤ most_bytes)) m.names are.short))

      pub is_loop_of : (s' : Seqs)
          → program_of s'.lp ≡ parts f.variables locals f.start.items branches.items
          → s'.shown.items ≡ starts 0 f.orders.items → s'.names ≡ f.sequences
          → IsLoopOf s' (sequences_in (behind_all f ns))
      is_loop_of s' lp shown_same named = record {
        is = lp ∙ loop_is;
        places = shown_same ∙ sym (shown_are ws f.orders.items (values_in f) ns laid);
        names = named ∙ sym (sequence_names_are ws f.orders.items (values_in f) ns laid);
        formed = formed_laid ws f.orders.items (values_in f) ns laid;
      }
