-- The law of the books.
use Rattle.std.proofs.Common.{◌≡◌, ℕ, ◌+◌, ◌<◌, true, false, List, length, replicate, Ok, Err, Option, Result, sym, ap, ◌∙◌, subst, inl, inr, arith}
use Rattle.std.proofs.lemmas.List.{get_or_past, get_or-replicate, length-replicate}
use Rattle.std.proofs.lemmas.Bool.{cases_lt}
use Rattle.std.proofs.lemmas.Bool.Decides.{nat_tests}
use Rattle.plates.specs.Size.{Size}
use Rattle.plates.specs.declared.refusals.Refusal.{Refusal}
use Rattle.plates.specs.declared.turnings.Turning.{Turning}
use Rattle.plates.specs.declared.verdicts.Verdict.{Verdict}
use Rattle.choice.specs.Choosing.{Fits}
use Rattle.yard.specs.declared.bins.Bin.{Bin}
use Rattle.yard.specs.Slips.{DrawnSlip}
use Rattle.yard.specs.Counts.{Count, empty, at}
use Rattle.yard.specs.Calls.{Drew, Slipped, Told, has_place, in_yard}
use Rattle.yard.specs.Runs.{Event, Ran, received, drawn, handed_back, pressed}
use Rattle.yard.specs.Law.{Balanced, Law, LeastOnHand, NextDrawing, NonePasses, Passing}
use Rattle.yard.proofs.Moves.{run_kept}
use Rattle.yard.proofs.Tables.{in_yard_held}

-- the numbers of the places balance with the run
abbrev Books : List Event → List Count → Type 0
Books es counts = (length counts ≡ 256) × ((k : ℕ) → ((at counts k).on_hand + drawn k es ≡ received k es + handed_back k es) × ((at counts k).out + handed_back k es + pressed k es ≡ drawn k es))

at_start : (k : ℕ) → at (replicate 256 empty) k ≡ empty
at_start k =
    elim (cases_lt k 256) [
      | inl h ↦ get_or-replicate 256 k empty empty h
      | inr h ↦ get_or_past (replicate 256 empty) k empty (omega (arith, length-replicate 256 empty))
    ]

books : (places : ℕ) (shows : ℕ → Option Size) (stamp : ℕ) (es : List Event) (counts : List Count) → Ran places shows stamp (replicate 256 empty) es counts → Books es counts
books places shows stamp es counts ran =
    let kept = run_kept places shows stamp (replicate 256 empty) counts es (length-replicate 256 empty) ran in (
      kept.0,
      λ k. let s = at_start k in
          (omega (arith, (kept.1 k).0, ap (λ n. n.on_hand) s), omega (arith, (kept.1 k).1, ap (λ n. n.out) s)),
    )

-- a pair that the yard shows is on hand by the books, and the other way round
passing_of : (verdict : Size → Turning → Verdict) (shows : ℕ → Option Size) (es : List Event) (counts : List Count) (k : ℕ) (t : Turning) (s : Size)
    → Books es counts → Fits verdict (in_yard shows counts) k t s → Passing verdict shows es k t s
passing_of verdict shows es counts k t s b f =
    let m = in_yard_held shows counts k s f.0 in
    record { on_hand = omega (arith, (b.1 k).0); shown = m.2; passes = f.1 }

below_256 : (counts : List Count) (k : ℕ) → length counts ≡ 256 → 0 < (at counts k).on_hand → k < 256
below_256 counts k full h =
    elim (cases_lt k 256) [
      | inl lt ↦ lt
      | inr le ↦ absurd (omega (arith, ap (λ n. n.on_hand) (get_or_past counts k empty (omega arith))))
    ]

shown_in_yard : (shows : ℕ → Option Size) (counts : List Count) (k : ℕ) → k < 256 → 0 < (at counts k).on_hand → in_yard shows counts k ≡ shows k
shown_in_yard shows counts k h l = grind (arith, nat_tests)

fits_of : (verdict : Size → Turning → Verdict) (shows : ℕ → Option Size) (es : List Event) (counts : List Count) (k : ℕ) (t : Turning) (s : Size)
    → Books es counts → Passing verdict shows es k t s → Fits verdict (in_yard shows counts) k t s
fits_of verdict shows es counts k t s b p =
    let held : 0 < (at counts k).on_hand = omega (arith, (b.1 k).0, p.on_hand) in
    (shown_in_yard shows counts k (below_256 counts k b.0 held) held ∙ p.shown, p.passes)

least_on_hand : (verdict : Size → Turning → Verdict) (shows : ℕ → Option Size) (stamp : ℕ) (es : List Event) (counts : List Count) (joint : ℕ) (slip : DrawnSlip) (after : List Count)
    → Books es counts → Slipped verdict shows stamp counts joint slip.numbers after → LeastOnHand verdict shows es slip.numbers
least_on_hand verdict shows stamp es counts joint slip after b h =
    record {
      plate = h.least.plate;
      passing = passing_of verdict shows es counts slip.numbers.place slip.numbers.turning h.least.plate b h.least.fits;
      least = λ k t s p. omega (arith, h.least.sized, h.least.least k t s (fits_of verdict shows es counts k t s b p));
    }

next : (standing : Result (Unit {0}) Refusal) (verdict : Size → Turning → Verdict) (shows : ℕ → Option Size) (stamp : ℕ) (es : List Event) (counts : List Count) (joint : ℕ) (r : Result DrawnSlip Refusal) (after : List Count)
    → Books es counts → Drew standing verdict shows stamp counts joint r after → NextDrawing standing verdict shows stamp es counts joint r after
next (Err e) verdict shows stamp es counts joint r after b h = h.0
next (Ok u) verdict shows stamp es counts joint (Ok slip) after b h =
    let best = least_on_hand verdict shows stamp es counts joint slip after b h in
    record {
      refused = λ e q. cc;
      nothing_fits = λ none. absurd (none slip.numbers.place slip.numbers.turning best.plate best.passing);
      defined = λ other q. let same : slip ≡ other = cc in subst (λ s. Slipped verdict shows stamp counts joint s.numbers after) same h;
      best = λ other q. let same : slip ≡ other = cc in subst (λ s. LeastOnHand verdict shows es s.numbers) same best;
    }
next (Ok u) verdict shows stamp es counts joint (Err x) after b h =
    let none : NonePasses verdict shows es = λ k t s p. h.1 k t s (fits_of verdict shows es counts k t s b p) in
    record {
      refused = λ e q. (let same : x ≡ e = cc in sym same ∙ h.0, none);
      nothing_fits = λ _. ap Err h.0;
      defined = λ slip q. cc;
      best = λ slip q. cc;
    }

balanced : (places : ℕ) (es : List Event) (counts : List Count) (k : ℕ) (r : Result Bin Refusal) → Books es counts → k < 256 → k < places → Told places counts k r → Balanced es k r
balanced places es counts k (Ok bin) b h l t = (omega (arith, (b.1 k).0, ap (λ n. n.on_hand) t.1), omega (arith, (b.1 k).1, ap (λ n. n.out) t.1))
balanced places es counts k (Err e) b h l t =
    let is : has_place places k ≡ true = grind (arith, nat_tests) in
    let not : has_place places k ≡ false = t.0 in
    let z : true ≡ false = sym is ∙ not in
    cc

pub the_law : (places : ℕ) (shows : ℕ → Option Size) (stamp : ℕ) → Law places shows stamp (replicate 256 empty)
the_law places shows stamp es counts ran =
    let b = books places shows stamp es counts ran in
    record {
      next_drawing = λ standing verdict joint r after h. next standing verdict shows stamp es counts joint r after b h;
      balance = λ k h l r t. balanced places es counts k r b h l t;
    }
