-- The parser of F's rows codes `rows`.
-- Assumes nothing.
use Prim.Native.Nat.{ℕ, suc}
use mathlib.Core.Path.{◌≡◌, refl, ap, sym}
use mathlib.Core.Bool.{Bool, true, false}
use mathlib.Core.List.{List, [], ◌∷◌, ◌++◌, map}
use lib.Dec.{T, eqb, eqb→eq}
use lib.ListN.{length}
use Rattle.event.specs.declared.Row.{Row}
use Rattle.event.specs.Parser.{Passed, ended, prints, Goods}
use Rattle.event.specs.Writing.{of_kind}
use Rattle.event.proofs.Codes.{Codes, any, At, same, codes_give}
use Rattle.event.proofs.Sequences.{codes_bind, codes_map}
use Rattle.event.proofs.Many.{codes_times}
use Rattle.event.proofs.Elements.{prints_map, goods_all, all_goods}
use Rattle.event.proofs.RowCodes.{codes_row}
use Rattle.event.proofs.Impossible.{impossible}
use Rattle.frs_layout.specs.Event.{Module, empty, with_data}
use Rattle.frs_layout.specs.Layout.{stamp_row, scaler_row, scaler_rows_from, scaler_block_row, scaler_rows, pattern_row, pattern_rows, value_row, module_rows, rows, stamp_checks, count_checks, scaler_checks, pattern_checks, value_checks, channels, ValidScalers, ValidValue, ValidModule, Formed}
use Rattle.frs_layout.specs.Writing.{stamp, next_index, scaler, pattern_unit, at_pattern, Header, empty_header, data_header, first_row, starts_module, header_of, header_checks, value, body, one_module, event_rows_up_to, at_stamp}
use Rattle.frs_layout.proofs.Event.{values_of, codes_event}

codes_stamp : Codes any stamp (λ s. stamp_row s ∷ []) (λ s. Passed (stamp_checks 0 s))
codes_stamp = codes_row (of_kind 16) _ stamp_row (stamp_checks 22) (λ s. tt) (λ s g. refl)

pub codes_pattern : Codes any pattern_unit pattern_rows (λ p. Passed (pattern_checks 0 p))
codes_pattern = codes_row (of_kind 19) _ pattern_row (pattern_checks 22) (λ p. tt) (λ p g. refl)

prints_scalers : (i : ℕ) (vs : List ℕ) → prints (λ j v. scaler_row j v ∷ []) next_index i vs ≡ scaler_rows_from i vs
prints_scalers i [] = refl
prints_scalers i (v ∷ vs) = ap (scaler_row i v ∷◌) (prints_scalers (suc i) vs)

abbrev GoodScaler : ℕ → Type 0
GoodScaler v = Passed (scaler_checks 0 v)

pub codes_scaler : Codes any scaler scaler_rows ValidScalers
codes_scaler = same
    (codes_bind length (codes_row (of_kind 17) _ scaler_block_row (count_checks 22) (λ n. tt) (λ n g. refl))
    (λ n g. codes_times next_index (λ i. codes_row (of_kind 18) (λ r. r.datum) (scaler_row i) (scaler_checks 22) (λ v. tt) (λ v g. refl)) n 0) (λ n vs g. g.0))
    (λ vs g. (g.0, goods_all GoodScaler next_index 0 vs g.1.1)) (λ vs g. (g.0, (refl, all_goods GoodScaler next_index 0 vs g.1)))
    (λ vs g. ap (scaler_block_row (length vs) ∷◌) (prints_scalers 0 vs))

-- modules: the first row, then the values
abbrev header_in : Module → Header
header_in (empty g) = empty_header g
header_in (with_data g vs c) = data_header g (length vs) c

abbrev body_rows : Module → List Row
body_rows (empty g) = []
body_rows (with_data g vs c) = map (value_row g) vs

abbrev ValidRest : Module → Type 0
ValidRest (empty g) = Unit {0}
ValidRest (with_data g vs c) = Goods ValidValue channels [] vs

codes_value : (g : ℕ) (seen : List ℕ) → Codes any (value g seen) (λ v. value_row g v ∷ []) (ValidValue seen)
codes_value g seen = codes_row (of_kind 22) _ (value_row g) (value_checks 22 22 seen) (λ v. tt) (λ v g. refl)

codes_body : (h : Header) → Codes any (body h) body_rows (λ m. (header_in m ≡ h) × ValidRest m)
codes_body (empty_header g) = same (codes_give (empty g)) (λ m e. rw e (refl, tt)) from (λ m e. rw e)
  where
    from : (m : Module) → (header_in m ≡ empty_header g) × ValidRest m → m ≡ empty g
    from (empty g') p = cc p.0
    from (with_data g' vs c) p = cc p.0
codes_body (data_header g n c) = same (codes_map (λ vs. with_data g vs c) values_of (codes_times channels (codes_value g) n []) (λ vs. refl)) to from print
  where
    Raw : Module → Type 0
    Raw m = ((length (values_of m) ≡ n) × Goods ValidValue channels [] (values_of m)) × (m ≡ with_data g (values_of m) c)

    to : (m : Module) → Raw m → (header_in m ≡ data_header g n c) × ValidRest m
    to m e = rw e.1 (ap (λ k. data_header g k c) e.0.0, e.0.1)

    from : (m : Module) → (header_in m ≡ data_header g n c) × ValidRest m → Raw m
    from (empty g') p = impossible (cc p.0)
    from (with_data g' vs c') p = ((cc p.0, p.1), cc p.0)

    print : (m : Module) → Raw m → prints (λ t v. value_row g v ∷ []) channels [] (values_of m) ≡ body_rows m
    print m e = rw e.1 (prints_map (value_row g) channels [] (values_of m))

pub codes_module : (seen : List ℕ) → Codes any (one_module seen) module_rows (ValidModule seen)
codes_module seen = same
    (codes_bind header_in (codes_row starts_module header_of first_row (header_checks seen) stands (λ h g. back h)) (λ h p. codes_body h) (λ h m e. e.0))
    to from print
  where
    Raw : Module → Type 0
    Raw m = Passed (header_checks seen (header_in m)) × ((header_in m ≡ header_in m) × ValidRest m)

    stands : (h : Header) → T (starts_module (first_row h))
    stands (empty_header g) = tt
    stands (data_header g n c) = tt

    back : (h : Header) → header_of (first_row h) ≡ h
    back (empty_header g) = refl
    back (data_header g n c) = refl

    to : (m : Module) → Raw m → ValidModule seen m
    to (empty g) p = search
    to (with_data g vs c) p = search

    from : (m : Module) → ValidModule seen m → Raw m
    from (empty g) p = search
    from (with_data g vs c) p = search

    print : (m : Module) → Raw m → first_row (header_in m) ∷ body_rows m ≡ module_rows m
    print (empty g) p = refl
    print (with_data g vs c) p = refl

-- the kind of a module's first row, which ends no event and is no pattern unit's
starts : (P : Row → Bool) → ((g n c : ℕ) → P (first_row (data_header g n c)) ≡ false) → ((g : ℕ) → P (first_row (empty_header g)) ≡ false) → (look : List Row → Bool)
    → ((x : Row) (r : List Row) → look (x ∷ r) ≡ P x) → (seen : List ℕ) (m : Module) → ValidModule seen m → (r : List Row) → look (module_rows m ++ r) ≡ false
starts P f b look e seen (empty g) v r = rw (e (first_row (empty_header g)) r) (b g)
starts P f b look e seen (with_data g vs c) v r = rw (e (first_row (data_header g (length vs) c)) (map (value_row g) vs ++ r)) (f g (length vs) c)

codes_up_to : (stop : List Row → Bool) → stop [] ≡ true → ((seen : List ℕ) (m : Module) → ValidModule seen m → (r : List Row) → stop (module_rows m ++ r) ≡ false)
    → ((r : List Row) → T (stop r) → at_pattern r ≡ false) → Codes (At stop) (event_rows_up_to stop) rows Formed
codes_up_to stop halt on no_stop = codes_event codes_stamp codes_scaler codes_pattern codes_module at_pattern stop halt on (λ p g r. refl)
    (starts (of_kind 19) (λ g n c. refl) (λ g. refl) at_pattern (λ x r. refl)) no_stop

-- one event alone, and one in a run
pub codes_one : Codes (At ended) (event_rows_up_to ended) rows Formed
codes_one = codes_up_to ended refl (starts (λ x. false) (λ g n c. refl) (λ g. refl) ended (λ x r. refl)) no_stop
  where
    no_stop : (r : List Row) → T (ended r) → at_pattern r ≡ false
    no_stop [] t = refl
    no_stop (x ∷ r) t = absurd t

pub codes_run : Codes (At at_stamp) (event_rows_up_to at_stamp) rows Formed
codes_run = codes_up_to at_stamp refl (starts (of_kind 16) (λ g n c. refl) (λ g. refl) at_stamp (λ x r. refl)) no_stop
  where
    no_stop : (r : List Row) → T (at_stamp r) → at_pattern r ≡ false
    no_stop [] t = refl
    no_stop (x ∷ r) t = ap (eqb 19) (sym (eqb→eq 16 x.kind t))
