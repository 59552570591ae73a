-- The lists of a stage, judged one after another.
--   list_stops, gens_stop, pairs_stop, links_stop     where one of them stops, the stage does, behind those that hold
--   stage_holds                                        all of them hold
use Rattle.std.proofs.Common.{ℕ, ◌<◌, List, [], ◌++◌, map, length, refl, sym, ap, ◌∙◌, append_assoc}
use Rattle.std.proofs.lemmas.List.{append-nil}
use Rattle.algebra.specs.Each.{Each}
use Rattle.algebra.proofs.Each.{each-append}
use Rattle.algebra.specs.Fraction.{Fraction}
use Rattle.polynomials.specs.Terms.{Terms}
use Rattle.machines.specs.Elimination.{free_part}
use Rattle.corollaries.specs.Representation.{pairs_of}
use Rattle.corollaries.specs.Stage.{Stage, Place, in_list, in_gens, in_pairs, in_links, HoldsAt, below, places}
use Rattle.cert_checker.specs.Parts.{place_of, place_at}
use Rattle.cert_checker.specs.StageParts.{IsPastPlace}
use Rattle.cert_checker.specs.FullStops.{IsStop, StopsAt, stop_map}
use Rattle.cert_checker.specs.declared.full_part.Row.TheVariants as row
use Rattle.cert_checker.specs.declared.full_stop.Stop.{Stop}
use Rattle.cert_checker.proofs.Stopping.{stop_in, numbers_hold, numbers_stop}

module _ (k : ℕ) (hs : List (Terms Fraction)) (s : Stage) (begun : ℕ → Type 0) where
  abbrev P : Place → Type 0
  P = HoldsAt k hs s

  abbrev W : Place → Type 0
  W = IsPastPlace begun s

  abbrev lists : List Place
  lists = map in_list (below (length s.list))

  abbrev gens : List Place
  gens = map in_gens (below (length hs))

  abbrev pairs : List Place
  pairs = map in_pairs (below (length (pairs_of (length s.list))))

  abbrev links : List Place
  links = map in_links (below (length (free_part k s.list)))

  module _ (listed : (i : ℕ) → i < length s.list → P (in_list i)) where
    lists_hold : Each P lists
    lists_hold = numbers_hold P in_list (length s.list) listed

    module _ (made : (i : ℕ) → i < length hs → P (in_gens i)) where
      gens_hold : Each P (lists ++ gens)
      gens_hold = each-append P lists gens lists_hold (numbers_hold P in_gens (length hs) made)

      module _ (paired : (i : ℕ) → i < length (pairs_of (length s.list)) → P (in_pairs i)) where
        pairs_hold : Each P (lists ++ (gens ++ pairs))
        pairs_hold = each-append P lists (gens ++ pairs) lists_hold
            (each-append P gens pairs (numbers_hold P in_gens (length hs) made)
            (numbers_hold P in_pairs _ paired))

        pub stage_holds : ((i : ℕ) → i < length (free_part k s.list) → P (in_links i))
            → Each P (places k hs s)
        stage_holds linked = each-append P lists (gens ++ (pairs ++ links)) lists_hold
            (each-append P gens (pairs ++ links) (numbers_hold P in_gens (length hs) made)
            (each-append P pairs links (numbers_hold P in_pairs _ paired) (numbers_hold P in_links
            (length (free_part k s.list)) linked)))

        pub links_stop : (e : Stop ℕ) → StopsAt (λ i. P (in_links i)) (λ i. W (in_links i))
            (length (free_part k s.list)) e
            → IsStop place_of P W (places k hs s) (stop_map (place_at row.Links) e)
        links_stop e h = stop_in _ _ W _ (lists ++ (gens ++ pairs)) links []
            (ap (λ ps. lists ++ (gens ++ (pairs ++ ps))) (sym (append-nil links))
            ∙ ap (λ ps. lists ++ ps) (sym (append_assoc gens pairs (links ++ [])))
            ∙ sym (append_assoc lists (gens ++ pairs) (links ++ []))) pairs_hold _
            (numbers_stop _ P W in_links _ (place_at row.Links) (λ i. refl) e h)

      pub pairs_stop : (e : Stop ℕ) → StopsAt (λ i. P (in_pairs i)) (λ i. W (in_pairs i))
          (length (pairs_of (length s.list))) e
          → IsStop place_of P W (places k hs s) (stop_map (place_at row.Pairs) e)
      pairs_stop e h = stop_in _ _ W _ (lists ++ gens) pairs links
          (sym (append_assoc lists gens (pairs ++ links))) gens_hold _
          (numbers_stop _ P W in_pairs _ (place_at row.Pairs) (λ i. refl) e h)

    pub gens_stop : (e : Stop ℕ) → StopsAt (λ i. P (in_gens i)) (λ i. W (in_gens i)) (length hs) e
        → IsStop place_of P W (places k hs s) (stop_map (place_at row.Gens) e)
    gens_stop e h = stop_in _ _ W _ lists gens (pairs ++ links) refl lists_hold _
        (numbers_stop _ P W in_gens _ (place_at row.Gens) (λ i. refl) e h)

  pub list_stops : (e : Stop ℕ) → StopsAt (λ i. P (in_list i)) (λ i. W (in_list i)) (length s.list)
      e → IsStop place_of P W (places k hs s) (stop_map (place_at row.List) e)
  unfolding Each
  list_stops e h = stop_in _ _ W _ [] lists (gens ++ (pairs ++ links)) refl tt _
      (numbers_stop _ P W in_list _ (place_at row.List) (λ i. refl) e h)
