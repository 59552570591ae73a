-- One loop of a chain after another.
--   one_bases, one_last          the first loop
--   more_bases, more_last        one loop more, behind its code
--   refused_first, refused_later     a refusal;  memory_first, memory_later: want of memory behind a basis
--   before_over, before_reduced, before_few     the list of the loops before
--   few_assigned, few_copies     how many copies there are;  few_enough: how many elements
use Rattle.std.proofs.Common.{◌≡◌, ◌⊎◌, inl, inr, ℕ, zero, suc, Bool, true, false, cond, ◌+◌, ◌*◌, ◌^◌, ◌<◌, ◌≤◌, List, [], ◌∷◌, ◌++◌, get_or, length, arith, refl, sym, ap, subst, ◌∙◌, Option, Some, None}
use Rattle.std.specs.Global.{Vec}
use Rattle.std.proofs.Math.Nat.{suc-mul}
use Rattle.std.proofs.lemmas.Nat.{mul-le}
use Rattle.std.proofs.lemmas.List.{get_or_append_left, get_or-append-add, length-append}
use Rattle.algebra.specs.Fraction.{Fraction}
use Rattle.polynomials.specs.Terms.{Terms}
use Rattle.machines.specs.Journal.{Journal}
use Rattle.loops.specs.Program.{Expr, Program, Statement}
use Rattle.poly.specs.Seen.{terms_each}
use Rattle.loop_model.specs.FracPoly.{FracPoly}
use Rattle.ideal_ops.specs.Calls.{AreOver}
use Rattle.rounds.specs.Journal.{IsFinishedBy, IsOutFrom}
use Rattle.rounds.specs.Results.{IsReducedList}
use Rattle.loops.specs.Chain.{Chain, no_stage, code_at, loop_at, up_to, IsChain}
use Rattle.corollaries.specs.Analysed.{Analysed, first, further, at_first, behind}
use Rattle.corollaries.specs.CodeBetween.{is_assigned, assigned_from}
use Rattle.corollaries.proofs.Analysed.{analysed_known, reduced_itself}
use Rattle.loop_model.specs.Maps.{AreFree}
use Rattle.invariant_fix.specs.Refusals.{AllHaveForms, IsRefused}
use Rattle.invariant_fix.specs.declared.errors.AnalyseError.{AnalyseError}
use Rattle.invariant_fix.specs.declared.errors.AnalyseError.TheVariants as error
use Rattle.invariant_fix.specs.Bases.{empty_journal, IsFormed, InLoop, InCode, HasWorked, IsRefusedAt, copies_to, AreBases, IsLast, IsRefusedIn}
use Rattle.invariant_fix.specs.Limits.{budget_limit, elements_limit}
use Rattle.invariant_fix.specs.ChainSteps.{HasList, MappedFrom, HasStage, HasWorkedStage, IsRefusedStage}
use Rattle.invariant_fix.specs.declared.refused.LoopError.{LoopError}
use Rattle.invariant_fix.specs.declared.refused.LoopError.TheVariants as loop_error
use Rattle.invariant_fix.specs.declared.refused.Refused.{Refused}

zero_place : (j : ℕ) → j < 1 → j ≡ 0
zero_place j k = omega (arith, k)

module _ (c : Chain (Expr ℕ)) (budget : ℕ) where
  -- the loop at this place is formed and analysed, with this list
  abbrev Here : ℕ → Vec FracPoly → Type 0
  Here j v = IsFormed c j × Analysed c budget j (terms_each v.items)
      × AreOver (length c.first.names) v.items
      × (length v.items ≤ length c.first.names + copies_to c j + suc j * budget)

  -- ---- the first
  module _ {l : Program (Expr ℕ)} (is : l ≡ c.first) (m : Journal) (limit : m.limit ≡ budget) where
    first_here : (gs : List FracPoly) → HasList l None (length l.names) budget m gs
        → HasList c.first None (length c.first.names) budget m gs
    first_here gs h = subst (λ (p : Program (Expr ℕ)). HasList p None (length p.names) budget m gs)
        is h

    module _ {b : Vec FracPoly} {bases : List (Vec FracPoly)} (e : bases ≡ b ∷ [])
        (h : HasList l None (length l.names) budget m b.items) where
      pub one_bases : AreFree l → AllHaveForms l → AreBases c budget 1 bases
      unfolding copies_to
      one_bases free forms =
          let here = first_here b.items h in
          let at : (j : ℕ) (d : Vec FracPoly) → j < 1 → Here j (get_or (b ∷ []) j d) = λ j d k.
          subst (λ j. Here j (get_or (b ∷ []) j d)) (sym (zero_place j k)) (
            (subst AreFree is free, subst AllHaveForms is forms),
            first m.entries here.rounds (terms_each b.items) here.finished here.units,
            here.over,
            (let f = here.few in let q : length c.first.names + budget
                ≤ length c.first.names + 0 + 1 * budget = omega arith in omega (arith, f, q)),
          ) in
          subst (AreBases c budget 1) (sym e) (record {
            count = refl;
            formed = λ j k. (at j b k).0;
            analysed = λ j d k. (at j d k).1;
            over = λ j d k. (at j d k).2;
            few = λ j d k. (at j d k).3;
          })

      pub one_last : IsLast c budget 1 m bases
      one_last =
          let here = first_here b.items h in
          subst (IsLast c budget 1 m) (sym e) (record {
            place = 0;
            is = refl;
            rounds = here.rounds;
            done = λ d. record {
              left = budget;
              given = None;
              known = at_first;
              limit = limit;
              so = here.finished;
            };
          })

    at_start : (P : ℕ → Option (List (Terms Fraction)) → Type 0) → P budget None
        → InLoop c budget m 0 P
    at_start P so = record { left = budget; given = None; known = at_first; limit = limit; so = so }

    first_refusal : (e : AnalyseError) → IsRefused c.first (empty_journal budget) m e
        → IsRefusedAt c budget m 0 (loop_error.Analysis e)
    first_refusal (error.Map e) r = r
    first_refusal (error.Branch b e) r = r
    first_refusal (error.Limit task) r = ((r.0, r.1), at_start _ r.2)
    first_refusal (error.Wide task) r = ((r.0, r.1), at_start _ r.2)
    first_refusal error.Budget r = (
      (r.0, r.1),
      inl (at_start _ (subst (λ n. IsOutFrom c.first None None n m.entries) limit r.2)),
    )
    first_refusal error.Memory r = inl (at_start _ r)

    pub refused_first : {r : Refused} {e : AnalyseError}
        → r ≡ record { place = 0; error = loop_error.Analysis e }
        → IsRefused l (empty_journal budget) m e → IsRefusedIn c budget m r
    refused_first {e = e} same h =
        subst (IsRefusedIn c budget m) (sym same) (record {
          within = omega arith;
          before = λ j k. absurd (omega (arith, k));
          reached = tt;
          refused = first_refusal e (subst (λ p. IsRefused p (empty_journal budget) m e) is h);
        })

  -- ---- one more
  module _ (n : ℕ) (bases : List (Vec FracPoly)) (known : AreBases c budget (suc n) bases)
      (inside : n < length c.further) (d : Vec FracPoly) where
    abbrev list : List FracPoly
    list = (get_or bases n d).items

    abbrev code : List (Statement (Expr ℕ))
    code = code_at c (suc n)

    abbrev bs : List (List (Statement (Expr ℕ)))
    bs = (get_or c.further n no_stage).branches

    before : Analysed c budget n (terms_each list)
    before = known.analysed n d (omega arith)

    pub before_over : AreOver (length c.first.names) list
    before_over = known.over n d (omega arith)

    pub before_few : length list ≤ length c.first.names + copies_to c n + suc n * budget
    before_few = known.few n d (omega arith)

    pub before_reduced : IsChain c → IsReducedList (length c.first.names) (terms_each list)
    before_reduced w = reduced_itself (up_to n c) (terms_each list)
        (analysed_known c w budget n (terms_each list) before)

    module _ (m : Journal) where
      in_loop : (P : ℕ → List (Terms Fraction) → Type 0)
          (Q : ℕ → Option (List (Terms Fraction)) → Type 0)
          → ((left : ℕ) (ks : List (Terms Fraction)) → P left ks → Q left (Some ks))
          → MappedFrom c.first code bs list budget m P → InLoop c budget m (suc n) Q
      in_loop P Q f l = record {
        left = l.left;
        given = Some l.list;
        known = behind n (terms_each list) l.entries l.list l.left before l.mapped l.units;
        limit = l.limit;
        so = f l.left l.list l.so;
      }

      in_code : (P : List (Terms Fraction) → Type 0) → m.limit ≡ budget → P (terms_each list)
          → InCode c budget m (suc n) P
      in_code P limit so = record {
        place = n;
        is = refl;
        list = terms_each list;
        analysed = before;
        limit = limit;
        so = so;
      }

      worked : HasWorkedStage c.first code bs list budget m → HasWorked c budget m (suc n)
      worked (inl l) = inl (in_loop _ _ (λ left ks so. so) l)
      worked (inr (limit, so)) = inr (in_code _ limit so)

      refusal : (e : LoopError) → IsRefusedStage c.first code bs list budget m e
          → IsRefusedAt c budget m (suc n) e
      refusal (loop_error.Analysis (error.Map e)) r = r
      refusal (loop_error.Analysis (error.Branch b e)) r = r
      refusal (loop_error.Analysis (error.Limit task)) r = (r.0, in_loop _ _ (λ left ks so. so) r.1)
      refusal (loop_error.Analysis (error.Wide task)) r = (r.0, in_loop _ _ (λ left ks so. so) r.1)
      refusal (loop_error.Analysis error.Budget) (formed, inl l) =
          (formed, inl (in_loop _ _ (λ left ks so. so) l))
      refusal (loop_error.Analysis error.Budget) (formed, inr (limit, so)) =
          (formed, inr (in_code _ limit so))
      refusal (loop_error.Analysis error.Memory) r = worked r
      refusal loop_error.Between r = (r.0, in_code _ r.1.0 r.1.1)

      pub refused_later : (r : Refused) (e : LoopError) → r ≡ record { place = suc n; error = e }
          → IsRefusedStage c.first code bs list budget m e → IsRefusedIn c budget m r
      refused_later r e same h = subst (IsRefusedIn c budget m) (sym same) (record {
        within = omega (arith, inside);
        before = λ j k. known.formed j (omega (arith, k));
        reached = (terms_each list, before);
        refused = refusal e h;
      })

      module _ (b : Vec FracPoly) (more : List (Vec FracPoly)) (e : more ≡ bases ++ b ∷ [])
          (h : HasStage c.first code bs list budget m b.items) where
        old : (j : ℕ) (x : Vec FracPoly) → j < suc n → get_or more j x ≡ get_or bases j x
        old j x k = ap (λ (bs : List (Vec FracPoly)). get_or bs j x) e
            ∙ get_or_append_left bases (b ∷ []) x j (let q = known.count in omega (arith, q, k))

        new : (x : Vec FracPoly) → get_or more (suc n) x ≡ b
        new x = ap (λ (bs : List (Vec FracPoly)). get_or bs (suc n) x) e
            ∙ ap (λ i. get_or (bases ++ b ∷ []) i x)
            (let q = known.count in let z : suc n ≡ length bases + 0 = omega (arith, q) in z)
            ∙ get_or-append-add bases (b ∷ []) 0 x

        split : (j : ℕ) → j < suc (suc n) → (j < suc n) ⊎ (j ≡ suc n)
        split j k = grind arith

        analysed_here : Analysed c budget (suc n) (terms_each b.items)
        analysed_here =
            let l = h.done in let u = l.units in let w = l.so.1 in
            further n (terms_each list) l.entries l.list m.entries h.rounds (terms_each b.items)
            before inside l.mapped l.so.0 (omega (arith, u, w))

        few_here : length b.items
            ≤ length c.first.names + copies_to c (suc n) + suc (suc n) * budget
        unfolding copies_to
        few_here =
            let a = h.few in let q = before_few in
            let z : suc (suc n) * budget ≡ suc n * budget + budget = suc-mul (suc n) budget in
            omega (arith, a, q, z)

        at : (j : ℕ) (x : Vec FracPoly) → (j < suc n) ⊎ (j ≡ suc n) → Here j (get_or more j x)
        at j x (inl k) = subst (Here j) (sym (old j x k))
            (known.formed j k, known.analysed j x k, known.over j x k, known.few j x k)
        at j x (inr z) = subst (λ j. Here j (get_or more j x)) (sym z)
            (subst (Here (suc n)) (sym (new x)) (h.formed, analysed_here, h.over, few_here))

        pub more_bases : AreBases c budget (suc (suc n)) more
        more_bases = record {
          count = ap length e ∙ length-append bases (b ∷ [])
              ∙ (let q = known.count in omega (arith, q));
          formed = λ j k. (at j b (split j k)).0;
          analysed = λ j x k. (at j x (split j k)).1;
          over = λ j x k. (at j x (split j k)).2;
          few = λ j x k. (at j x (split j k)).3;
        }

        pub more_last : IsLast c budget (suc (suc n)) m more
        more_last = record {
          place = suc n;
          is = refl;
          rounds = h.rounds;
          done = λ x. subst (λ (v : Vec FracPoly). InLoop c budget m (suc n) (λ left given.
              IsFinishedBy (loop_at c (suc n)) given m.entries h.rounds (terms_each v.items)))
              (sym (new x)) (in_loop _ _ (λ left ks so. so.0) h.done);
        }

-- ---- so many elements are few
pub few_assigned : (code : List (Statement (Expr ℕ))) (i n : ℕ) → length (assigned_from code i n)
    ≤ n
few_assigned code i zero = omega arith
few_assigned code i (suc n) = go (is_assigned code i) (few_assigned code (suc i) n)
  where
    go : (t : Bool) → length (assigned_from code (suc i) n) ≤ n
        → length (cond t (i ∷ assigned_from code (suc i) n) (assigned_from code (suc i) n)) ≤ suc n
    go true h = omega (arith, h)
    go false h = omega (arith, h)

pub few_copies : (c : Chain (Expr ℕ)) (j : ℕ) → copies_to c j ≤ j * length c.first.names
unfolding copies_to
few_copies c zero = omega arith
few_copies c (suc j) =
    let a = few_copies c j in
    let b = few_assigned (code_at c (suc j)) 0 (length c.first.names) in
    let z : suc j * length c.first.names ≡ j * length c.first.names + length c.first.names =
    suc-mul j (length c.first.names) in
    omega (arith, a, b, z)

pub few_enough : (c : Chain (Expr ℕ)) (n budget k : ℕ) → length c.first.names ≤ 12 → suc n ≤ 7
    → budget ≤ budget_limit → k ≤ length c.first.names + copies_to c n + suc n * budget
    → k ≤ elements_limit
few_enough c n budget k a b d h =
    let q = few_copies c n in
    let x = mul-le n (length c.first.names) 7 12 (omega (arith, b)) a in
    let y = mul-le (suc n) budget 7 (2 ^ 24) b d in
    omega (arith, q, h, x, y, a)
