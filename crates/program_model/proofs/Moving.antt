-- Open paths that go on all at once.
--   open_cut             open paths in two parts;  open_joined: behind one another
--   Moved n ev to ps qs  each of qs is what `to` makes of the open path of ps at its place, and none of the events ev passes a limit;  moved_none, moved_more
--   moved_stops          a stop at one of them
--   opens                what is made of one
use Rattle.std.proofs.Common.{◌≡◌, ◌<◌, ◌≤◌, ℕ, ◌+◌, List, [], ◌∷◌, ◌++◌, map, take, get_or, length, refl, sym, ap, subst, ◌∙◌, arith, append_assoc, All, Ok}
use Rattle.std.specs.List.{flat_map}
use Rattle.std.proofs.lemmas.List.{append-nil, map-append, take_more, take_all}
use Rattle.std.proofs.lemmas.List.Concat.{flat_map-append}
use Rattle.std.proofs.lemmas.List.Elements.{All-nil, All-cons, All-push, All-head, All-tail}
use Rattle.flows.specs.Steps as steps
use Rattle.flows.specs.Chart.{Open}
use Rattle.loop_model.specs.declared.map_error.MapError.{MapError}
use Rattle.program_model.specs.Events.{Event, IsPastLimit, AreFree, Stops, Makes}
use Rattle.program_model.specs.PathEvents.{E}
use Rattle.program_model.specs.UnderWay.{IsUnderWay, IsReady, IsOpen, AreOpen}
use Rattle.program_model.specs.declared.path.Path.{Path}
use Rattle.program_model.proofs.EventLaws.{free_append, stops_front, stops_behind}

abbrev pub O : Type 0
O = Open E

-- the open paths of two lists
pub record Cut (n : ℕ) (os : List O) (ps qs : List Path) : Type 0 where
  pub first : List O
  pub second : List O
  pub order : os ≡ first ++ second
  pub is_first : AreOpen n first ps
  pub is_second : AreOpen n second qs

pub open_cut : (n : ℕ) (os : List O) (ps qs : List Path) → AreOpen n os (ps ++ qs) → Cut n os ps qs
open_cut n os [] qs h =
    record { first = []; second = os; order = refl; is_first = tt; is_second = h }
open_cut n [] (p ∷ ps) qs h = absurd h
open_cut n (o ∷ os) (p ∷ ps) qs h =
    let c = open_cut n os ps qs h.1 in
    record {
      first = o ∷ c.first;
      second = c.second;
      order = ap (λ xs. o ∷ xs) c.order;
      is_first = (h.0, c.is_first);
      is_second = c.is_second;
    }

pub open_joined : (n : ℕ) (os us : List O) (ps qs : List Path) → AreOpen n os ps
    → AreOpen n us qs → AreOpen n (os ++ us) (ps ++ qs)
open_joined n [] us [] qs h k = k
open_joined n [] us (p ∷ ps) qs h k = absurd h
open_joined n (o ∷ os) us [] qs h k = absurd h
open_joined n (o ∷ os) us (p ∷ ps) qs h k = (h.0, open_joined n os us ps qs h.1 k)

module _ (n : ℕ) (ev : O → List Event) (to : O → O) where
  pub record Moved (ps qs : List Path) : Type 0 where
    pub ready : All (IsReady n) qs
    pub paths : (os : List O) → AreOpen n os ps
        → AreOpen n (map to os) qs × AreFree (flat_map ev os)

  pub moved_none : Moved [] []
  moved_none = record { ready = All-nil (IsReady n); paths = λ os h. go os h }
    where
      go : (os : List O) → AreOpen n os []
          → AreOpen n (map to os) [] × AreFree (flat_map ev os)
      go [] h = (tt, All-nil (λ e. ¬ (IsPastLimit e)))
      go (o ∷ os) h = absurd h

  pub moved_more : (ps qs : List Path) (p q : Path) → Moved ps qs → IsReady n q
      → ((o : O) → IsOpen n o p → IsOpen n (to o) q × AreFree (ev o))
      → Moved (ps ++ p ∷ []) (qs ++ q ∷ [])
  moved_more ps qs p q h r f = record {
    ready = All-push (IsReady n) qs q h.ready r;
    paths = λ os k. let c = open_cut n os ps (p ∷ []) k in
        go os c c.second refl c.is_second;
  }
    where
      go : (os : List O) (c : Cut n os ps (p ∷ [])) (us : List O) → c.second ≡ us
          → AreOpen n us (p ∷ [])
          → AreOpen n (map to os) (qs ++ q ∷ []) × AreFree (flat_map ev os)
      go os c [] e k = absurd k
      go os c (o ∷ v ∷ us) e k = absurd k.1
      go os c (o ∷ []) e k =
          let g = h.paths c.first c.is_first in
          let w = f o k.0 in
          let same : os ≡ c.first ++ o ∷ [] = c.order ∙ ap (λ xs. c.first ++ xs) e in (
            subst (λ xs. AreOpen n xs (qs ++ q ∷ []))
                (sym (ap (map to) same ∙ map-append to c.first (o ∷ [])))
                (open_joined n (map to c.first) (to o ∷ []) qs (q ∷ []) g.0 (w.0, tt)),
            subst AreFree (sym (ap (flat_map ev) same ∙ flat_map-append ev c.first (o ∷ [])))
                (free_append (flat_map ev c.first) (flat_map ev (o ∷ [])) g.1
                (subst AreFree (sym (append-nil (ev o))) w.1)),
          )

  pub moved_stops : (ps qs : List Path) (p : Path) (rest : List Path) → Moved ps qs
      → (x : MapError) → ((o : O) → IsOpen n o p → Stops (ev o) x) → (os : List O)
      → AreOpen n os (ps ++ p ∷ rest) → Stops (flat_map ev os) x
  moved_stops ps qs p rest h x f os k = let c = open_cut n os ps (p ∷ rest) k in
      go c c.second refl c.is_second
    where
      go : (c : Cut n os ps (p ∷ rest)) (us : List O) → c.second ≡ us
          → AreOpen n us (p ∷ rest) → Stops (flat_map ev os) x
      go c [] e k = absurd k
      go c (o ∷ us) e k =
          subst (λ es. Stops es x)
          (sym (ap (flat_map ev) (c.order ∙ ap (λ xs. c.first ++ xs) e)
          ∙ flat_map-append ev c.first (o ∷ us)))
          (stops_behind (flat_map ev c.first) (ev o ++ flat_map ev us) x
          (h.paths c.first c.is_first).1 (stops_front (ev o) (flat_map ev us) x (f o k.0)))

-- ---- one of them
pub opens : (n : ℕ) (o : O) (p q : Path) (gs : List (steps.Step E)) (es : List Event)
    → IsOpen n o p → IsReady p.variables q
    → Makes es (IsUnderWay n o.from (o.steps ++ gs) []) (Ok q)
    → IsOpen n (record { from = o.from; steps = o.steps ++ gs }) q × AreFree es
opens n o p q gs es h r k =
    (record { ready = subst (λ m. IsReady m q) h.ready.variables r; way = k.0 }, k.1)

pub first_ready : (n : ℕ) (all ps rest : List Path) (p : Path) → All (IsReady n) all
    → all ≡ ps ++ p ∷ rest → IsReady n p
first_ready n all ps rest p h e = go ps (subst (All (IsReady n)) e h)
  where
    go : (ps : List Path) → All (IsReady n) (ps ++ p ∷ rest) → IsReady n p
    go [] k = All-head (IsReady n) p rest k
    go (x ∷ ps) k = go ps (All-tail (IsReady n) x (ps ++ p ∷ rest) k)

-- ---- a list that is taken item by item: what was taken, and the rest
pub taken_more : (all ps rest left : List Path) (p : Path) → all ≡ ps ++ rest → rest ≡ p ∷ left
    → all ≡ (ps ++ p ∷ []) ++ left
taken_more all ps rest left p e f = e ∙ ap (λ xs. ps ++ xs) f ∙ sym (append_assoc ps (p ∷ []) left)

pub taken_all : (all ps rest : List Path) → all ≡ ps ++ rest → length rest ≡ 0 → ps ≡ all
taken_all all ps [] e l = sym (e ∙ append-nil ps)
taken_all all ps (x ∷ rest) e l = absurd (omega arith)

-- ---- copies
all_left : (n : ℕ) (ps qs : List Path) → All (IsReady n) (ps ++ qs) → All (IsReady n) ps
all_left n [] qs h = All-nil (IsReady n)
all_left n (p ∷ ps) qs h = All-cons (IsReady n) p ps (All-head (IsReady n) p (ps ++ qs) h)
    (all_left n ps qs (All-tail (IsReady n) p (ps ++ qs) h))

pub record CopiedAll (ps qs : List Path) : Type 0 where
  pub ready : (n : ℕ) → All (IsReady n) ps → All (IsReady n) qs
  pub paths : (n : ℕ) (os : List O) → AreOpen n os ps → AreOpen n os qs

pub copied_none : CopiedAll [] []
copied_none = record { ready = λ n h. h; paths = λ n os h. h }

pub copied_more : (ps qs : List Path) (p q : Path) → CopiedAll ps qs
    → ((n : ℕ) → IsReady n p → IsReady n q)
    → ((n u : ℕ) (cs : List (steps.Step E)) → IsUnderWay n u cs [] p → IsUnderWay n u cs [] q)
    → CopiedAll (ps ++ p ∷ []) (qs ++ q ∷ [])
copied_more ps qs p q h r w = record {
  ready = λ n k. All-push (IsReady n) qs q (h.ready n (front n k)) (r n (first_ready n
      (ps ++ p ∷ []) ps [] p k refl));
  paths = λ n os k. let c = open_cut n os ps (p ∷ []) k in go n os c c.second refl c.is_second;
}
  where
    front : (n : ℕ) → All (IsReady n) (ps ++ p ∷ []) → All (IsReady n) ps
    front n k = all_left n ps (p ∷ []) k

    go : (n : ℕ) (os : List O) (c : Cut n os ps (p ∷ [])) (us : List O) → c.second ≡ us
        → AreOpen n us (p ∷ []) → AreOpen n os (qs ++ q ∷ [])
    go n os c [] e k = absurd k
    go n os c (o ∷ v ∷ us) e k = absurd k.1
    go n os c (o ∷ []) e k =
        subst (λ xs. AreOpen n xs (qs ++ q ∷ [])) (sym (c.order ∙ ap (λ xs. c.first ++ xs) e))
        (open_joined n c.first (o ∷ []) qs (q ∷ []) (h.paths n c.first c.is_first) (
          record { ready = r n k.0.ready; way = w n o.from o.steps k.0.way },
          tt,
        ))

pub copied_next : (ps qs : List Path) (i : ℕ) (p q : Path) → i < length ps → p ≡ get_or ps i p
    → CopiedAll (take i ps) qs → ((n : ℕ) → IsReady n p → IsReady n q)
    → ((n u : ℕ) (cs : List (steps.Step E)) → IsUnderWay n u cs [] p → IsUnderWay n u cs [] q)
    → CopiedAll (take (i + 1) ps) (qs ++ q ∷ [])
copied_next ps qs i p q l is h r w =
    subst (λ xs. CopiedAll xs (qs ++ q ∷ []))
    (sym (take_more ps i p l ∙ ap (λ (x : Path). take i ps ++ x ∷ []) (sym is)))
    (copied_more (take i ps) qs p q h r w)

pub copied_all : (ps qs rs : List Path) (i : ℕ) → length ps ≤ i → ps ≡ qs
    → CopiedAll (take i ps) rs → CopiedAll qs rs
copied_all ps qs rs i l e h = subst (λ xs. CopiedAll xs rs) (take_all i ps l ∙ e) h
