-- A stage as the code makes it (specs/Making), in a task of a trace that eliminates as many variables from what it begins with.
--   kept_ones                what is kept of monic elements is monic
--   rows_length              there are as many rows as polynomials
--   stage_awaits             behind the divisions by what is given comes what follows the task
--   stage_refused            a refusal
use Rattle.std.proofs.Common.{◌≡◌, ◌⊎◌, inl, inr, ℕ, suc, List, [], ◌∷◌, ◌++◌, map, take, drop, length, Some, refl, sym, ap, subst, ◌∙◌, append-nil}
use Rattle.algebra.specs.Fraction.{Fraction, ℚ, fractions, rationals}
use Rattle.algebra.proofs.Fractions.{ℚ_field}
use Rattle.polynomials.specs.Order.{Rank, grevlex}
use Rattle.polynomials.specs.Terms.{Terms}
use Rattle.polynomials.proofs.Orders.{grevlex_order}
use Rattle.machines.specs.Basis.{AtPlaces}
use Rattle.machines.specs.Completion.{s_polynomial}
use Rattle.machines.specs.Cut.{lead_number, monic}
use Rattle.machines.specs.Elimination.{free_part}
use Rattle.machines.specs.Journal.{Entry, Begin, Journal}
use Rattle.machines.specs.Machine.{Refusal, out_of_memory, Stops}
use Rattle.machines.specs.Machines as machines
use Rattle.machines.specs.Past as past
use Rattle.machines.specs.Work.{WorkToEnd}
use Rattle.machines.proofs.Ends.{monic_list}
use Rattle.machines.proofs.Front.{comes, lead_number_dropped}
use Rattle.rounds.specs.Analysis.{Setting, Work, block, order}
use Rattle.rounds.specs.Past.{task_of_work}
use Rattle.corollaries.specs.Representation.{pairs_of}
use Rattle.corollaries.specs.Stage.{Stage, block_order}
use Rattle.corollaries.specs.Coming.{IsGoing, Comes, Awaits, Refuses}
use Rattle.corollaries.specs.Followed.{IsPastDividends, IsPastDivided}
use Rattle.corollaries.specs.Rows.{AreDivided, IsRefusedIn, ArePairsDivided, IsRefusedInPairs}
use Rattle.corollaries.specs.Trace.{Dividend, Results, with_stage, goes, start_of, alone, list_dividends, link_dividends, stage_of, after, link_from, divide_from}
use Rattle.corollaries.proofs.Awaiting.{list_awaits, list_refused, out_awaits, out_refused}
use Rattle.corollaries.proofs.AwaitingRows.{list_rows_await, list_rows_refused, pair_rows_await, pair_rows_refused, link_rows_await, link_rows_refused, links_end}
use Rattle.corollaries.specs.Making.{Eliminates, IsListMade, IsOutMade, IsStageMade, IsRefusedBehindGens, IsRefusedBehindPairs, IsRefusedBehindOut, IsStageRefused}

abbrev IsOne : Terms Fraction → Type 0
IsOne g = lead_number rationals g ≡ ℚ.one

pub kept_ones : (k : ℕ) (gs : List (Terms Fraction)) → AtPlaces IsOne gs
    → AtPlaces IsOne (free_part k gs)
kept_ones k gs h j g at =
    let c = comes k gs j g at in
    ap (lead_number rationals) c.is ∙ lead_number_dropped rationals (drop k) c.whole
    ∙ h c.place c.whole c.at

pub rows_length : (O : Rank) (gs ps : List (Terms Fraction)) (rows : List (List (Terms Fraction)))
    (before after : List Entry) → AreDivided O gs ps rows before after → length rows ≡ length ps
unfolding AreDivided
rows_length O gs [] [] before after d = refl
rows_length O gs [] (r ∷ rows) before after d = absurd d
rows_length O gs (p ∷ ps) [] before after d = absurd d
rows_length O gs (p ∷ ps) (r ∷ rows) before after (mid, here, rest) =
    ap suc (rows_length O gs ps rows mid after rest)

take_front : {X : Type 0} (xs ys : List X) → take (length xs) (xs ++ ys) ≡ xs
take_front [] ys = refl
take_front (x ∷ xs) ys = ap (λ zs. x ∷ zs) (take_front xs ys)

drop_front : {X : Type 0} (xs ys : List X) → drop (length xs) (xs ++ ys) ≡ ys
drop_front [] ys = refl
drop_front (x ∷ xs) ys = drop_front xs ys

-- where its elements are monic a tidying begins with the list itself, and nothing is past
pub ones_begin : (gs : List (Terms Fraction)) → AtPlaces IsOne gs → map (monic rationals) gs ≡ gs
ones_begin gs h = monic_list ℚ_field grevlex grevlex_order 0 gs h

pub ones_fit : (gs : List (Terms Fraction)) → AtPlaces IsOne gs
    → past.IsPastStart fractions rationals gs → ⊥
ones_fit gs h p = p.past.0 (h p.place p.element p.at)

module _ (A : Setting) (rounds : ℕ) (done : Results) (w : Work) (k : ℕ)
    (hs : List (Terms Fraction)) (e : Eliminates A w k hs) (es : List Entry)
    (c : Comes A rounds es (goes (Begin (task_of_work w)) (start_of A done w))) where
  abbrev Q : Rank
  Q = block_order k

  abbrev first : List Entry
  first = es ++ Begin (task_of_work w) ∷ []

  abbrev pairs : List (Terms Fraction) → List Dividend
  pairs gs = map (λ a. (Some a, s_polynomial rationals (order A w) gs a)) (pairs_of (length gs))

  abbrev ListAwaited : List (Terms Fraction) → List (List (Terms Fraction)) → List Dividend
      → List Entry → Type 0
  ListAwaited gs rows js at = Awaits A rounds at (task_of_work w)
      (divide_from A rounds done w gs rows js) (IsPastDivided A w gs js)

  -- behind the completion
  listed : (gs : List (Terms Fraction)) (at : List Entry)
      → IsListMade (block_order k) hs gs first at
      → ListAwaited gs [] (alone A hs ++ (pairs gs ++ [])) at
  listed gs at m =
      subst (λ js. ListAwaited gs [] js at) (e.lists gs)
      (subst (λ l. ListAwaited l [] (list_dividends A w l) at) (sym m.is)
      (list_awaits A rounds done w es c at m.last
      (subst (λ l. WorkToEnd (machines.completion fractions (order A w) l).next
      (machines.completion fractions (order A w) l).start first at m.last) (sym e.begins)
      (subst (λ O. WorkToEnd (machines.completion fractions O hs).next
      (machines.completion fractions O hs).start first at m.last) (sym e.order_is) m.finished))))

  -- behind the divisions by its list
  module _ (gs : List (Terms Fraction)) (before : List Entry)
      (a : ListAwaited gs [] (alone A hs ++ (pairs gs ++ [])) before) where
    divided : (rows : List (List (Terms Fraction))) (at : List Entry)
        → AreDivided Q gs hs rows before at → ListAwaited gs rows (pairs gs ++ []) at
    divided rows at d = list_rows_await A rounds done w gs (pairs gs ++ []) hs [] rows before at a
        (subst (λ O. AreDivided O gs hs rows before at) (sym e.order_is) d)

    undivided : (after : Journal) (r : Refusal) → IsRefusedIn Q gs hs before after r
        → Refuses A rounds (task_of_work w) after r
    undivided after r x = list_rows_refused A rounds done w gs (pairs gs ++ []) hs [] before after
        a r (subst (λ O. IsRefusedIn O gs hs before after r) (sym e.order_is) x)

  module _ (gs : List (Terms Fraction)) (given : List (List (Terms Fraction)))
      (before : List Entry) (a : ListAwaited gs given (pairs gs ++ []) before) where
    paired : (rows : List (List (Terms Fraction))) (at : List Entry)
        → ArePairsDivided Q gs (pairs_of (length gs)) rows before at
        → ListAwaited gs (given ++ rows) [] at
    paired rows at d = pair_rows_await A rounds done w gs [] (pairs_of (length gs)) given rows
        before at a (subst (λ O. ArePairsDivided O gs (pairs_of (length gs)) rows before at)
        (sym e.order_is) d)

    unpaired : (after : Journal) (r : Refusal)
        → IsRefusedInPairs Q gs (pairs_of (length gs)) before after r
        → Refuses A rounds (task_of_work w) after r
    unpaired after r x = pair_rows_refused A rounds done w gs [] (pairs_of (length gs)) given
        before after a r (subst (λ O. IsRefusedInPairs O gs (pairs_of (length gs)) before after r)
        (sym e.order_is) x)

  -- behind the tidying
  module _ (gs : List (Terms Fraction)) (ones : AtPlaces IsOne gs)
      (rows : List (List (Terms Fraction))) where
    abbrev LinksAwaited : List (Terms Fraction) → List (List (Terms Fraction)) → List Dividend
        → List Entry → Type 0
    LinksAwaited out links js at = Awaits A rounds at (task_of_work w)
        (link_from A rounds done w (record { list = gs; rows = rows }) out links js)
        (IsPastDividends grevlex out js ⊥)

    kept_is : free_part k gs ≡ free_part (block A w) gs
    kept_is = ap (λ n. free_part n gs) (sym e.block_is)

    begin : map (monic rationals) (free_part k gs) ≡ free_part k gs
    begin = ones_begin (free_part k gs) (kept_ones k gs ones)

    tidied : (before at : List Entry) (out : List (Terms Fraction)) → ListAwaited gs rows [] before
        → IsOutMade (free_part k gs) out before at
        → LinksAwaited out [] (alone A (free_part k gs) ++ []) at
    tidied before at out a m =
        subst (λ js. LinksAwaited out [] js at)
        (e.links gs ∙ sym (append-nil (alone A (free_part k gs))))
        (subst (λ l. LinksAwaited l [] (link_dividends A w gs) at) (sym m.is)
        (out_awaits A rounds done w gs rows (free_part k gs) kept_is begin before at m.last a
        m.finished))

    untidied : (before after : Journal) → ListAwaited gs rows [] before.entries → (r : Refusal)
        → Stops (machines.tidying fractions grevlex (free_part k gs)) before after r
        → Refuses A rounds (task_of_work w) after r
    untidied before after a r s = out_refused A rounds done w gs rows (free_part k gs) kept_is begin
        before after a (ones_fit (free_part k gs) (kept_ones k gs ones)) r s

    linked : (out : List (Terms Fraction)) (links : List (List (Terms Fraction)))
        (before at : List Entry) → LinksAwaited out [] (alone A (free_part k gs) ++ []) before
        → AreDivided grevlex out (free_part k gs) links before at → Comes A rounds at
        (after A rounds (with_stage done w
        (stage_of A w (record { list = gs; rows = rows }) out links)) w out)
    linked out links before at a d = links_end A rounds done w gs rows (free_part k gs) out links at
        (link_rows_await A rounds done w gs rows (free_part k gs) out [] (free_part k gs) [] links
        before at
        a d)

    unlinked : (out : List (Terms Fraction)) (before : List Entry) (after : Journal)
        → LinksAwaited out [] (alone A (free_part k gs) ++ []) before → (r : Refusal)
        → IsRefusedIn grevlex out (free_part k gs) before after r
        → Refuses A rounds (task_of_work w) after r
    unlinked out before after a r x = link_rows_refused A rounds done w gs rows (free_part k gs) out
        []
        (free_part k gs) [] before after a r x

  -- ---- all of it
  pub stage_awaits : (s : Stage) (at : List Entry) → IsStageMade k hs s first at
      → Comes A rounds at (after A rounds (with_stage done w s) w s.out)
  stage_awaits s at m =
      let a = listed s.list m.listed m.list in
      let b = divided s.list m.listed a s.gens m.divided m.gens in
      let p = paired s.list s.gens m.divided b s.pairs m.paired m.pairs in
      let rows = s.gens ++ s.pairs in
      let t = tidied s.list m.list.monic rows m.paired m.tidied s.out p m.out in
      let size : length hs ≡ length s.gens =
      sym (rows_length Q s.list hs s.gens m.listed m.divided m.gens) in
      let is : stage_of A w (record { list = s.list; rows = rows }) s.out s.links ≡ s =
      e.stage_is (record { list = s.list; rows = rows }) s.out s.links
      ∙ ap (λ n. record {
        list = s.list;
        gens = take n rows;
        pairs = drop n rows;
        out = s.out;
        links = s.links;
      }) size
      ∙ (λ i. record {
        list = s.list;
        gens = take_front s.gens s.pairs i;
        pairs = drop_front s.gens s.pairs i;
        out = s.out;
        links = s.links;
      }) in
      subst (λ z. Comes A rounds at (after A rounds (with_stage done w z) w s.out)) is
      (linked s.list m.list.monic rows s.out s.links m.tidied at t m.links)

  pub stage_refused : (before after : Journal) → before.entries ≡ first → (r : Refusal)
      → IsStageRefused k hs after r before → Refuses A rounds (task_of_work w) after r
  stage_refused before after at r (inl s) =
      list_refused A rounds done w es c before after at r
      (subst (λ l. Stops (machines.completion fractions (order A w) l) before after r)
      (sym e.begins) (subst (λ O. Stops (machines.completion fractions O hs) before after r)
      (sym e.order_is) s))
  stage_refused before after at r (inr b) = behind_list b.refused
    where
      a : ListAwaited b.list [] (alone A hs ++ (pairs b.list ++ [])) b.listed
      a = listed b.list b.listed
          (subst (λ l. IsListMade (block_order k) hs b.list l b.listed) at b.made)

      behind_out : (rows : List (List (Terms Fraction))) (paired : List Entry)
          → ListAwaited b.list rows [] paired → IsRefusedBehindOut k hs after r b.list paired
          → Refuses A rounds (task_of_work w) after r
      behind_out rows paired p x = unlinked b.list b.made.monic rows x.out x.tidied after
          (tidied b.list b.made.monic rows paired x.tidied x.out p x.made) r x.refused

      behind_pairs : (gens : List (List (Terms Fraction))) (divided : List Entry)
          → ListAwaited b.list gens (pairs b.list ++ []) divided
          → IsRefusedBehindPairs k hs after r b.list divided
          → Refuses A rounds (task_of_work w) after r
      behind_pairs gens divided d x = go x.refused
        where
          p : ListAwaited b.list (gens ++ x.pairs) [] x.paired.entries
          p = paired b.list gens divided d x.pairs x.paired.entries x.made

          go : Stops (machines.tidying fractions grevlex (free_part k b.list)) x.paired after r
              ⊎ IsRefusedBehindOut k hs after r b.list x.paired.entries
              → Refuses A rounds (task_of_work w) after r
          go (inl s) = untidied b.list b.made.monic (gens ++ x.pairs) x.paired after p r s
          go (inr o) = behind_out (gens ++ x.pairs) x.paired.entries p o

      behind_gens : IsRefusedBehindGens k hs after r b.list b.listed
          → Refuses A rounds (task_of_work w) after r
      behind_gens x = go x.refused
        where
          d : ListAwaited b.list x.gens (pairs b.list ++ []) x.divided
          d = divided b.list b.listed a x.gens x.divided x.made

          go : IsRefusedInPairs Q b.list (pairs_of (length b.list)) x.divided after r
              ⊎ IsRefusedBehindPairs k hs after r b.list x.divided
              → Refuses A rounds (task_of_work w) after r
          go (inl u) = unpaired b.list x.gens x.divided d after r u
          go (inr u) = behind_pairs x.gens x.divided d u

      behind_list : ((after.entries ≡ b.listed) × (r ≡ out_of_memory))
          ⊎ (IsRefusedIn Q b.list hs b.listed after r
          ⊎ IsRefusedBehindGens k hs after r b.list b.listed)
          → Refuses A rounds (task_of_work w) after r
      behind_list (inl (same, is)) =
          subst (Refuses A rounds (task_of_work w) after) (sym is)
          (subst (IsGoing A rounds) (sym same) (record { state = a.state; run = a.run }))
      behind_list (inr (inl u)) = undivided b.list b.listed a after r u
      behind_list (inr (inr u)) = behind_gens u
