-- A replay is a run of calls on its yard, so the law of the books holds for it.
use Rattle.std.proofs.Common.{◌≡◌, ℕ, ◌+◌, ◌<◌, List, [], ◌∷◌, ◌++◌, length, get_or, take, replicate, Some, None, Option, sym, refl, ap, ◌∙◌, subst, append_assoc, append-nil}
use Rattle.std.specs.List.{slice_get}
use Rattle.std.proofs.lemmas.List.{length-append, take_more}
use Rattle.plates.specs.Size.{Size}
use Rattle.yard.specs.declared.replays.Answer.{Answer}
use Rattle.yard.specs.declared.replays.Call.{Call}
use Rattle.yard.specs.declared.replays.Call.TheVariants as call
use Rattle.yard.specs.declared.replays.Hook.{Hook}
use Rattle.yard.specs.declared.replays.Hook.TheVariants.{Drawn, Tacked, Empty}
use Rattle.yard.specs.Counts.{Count, empty}
use Rattle.yard.specs.Runs.{Event, Ran, Step, receipt, drawing, hand_back, pressing, telling}
use Rattle.yard.specs.Replays.{Does, Draws, HandsBack, Means, Presses, Replayed, Replays, State, Stays, Tacks, Voids, hung}
use Rattle.yard.proofs.Books.{the_law}

-- what has been done when there are these answers
abbrev pub Worked : List Means → ℕ → (ℕ → Option Size) → ℕ → List Hook → List Call → List Answer → List Hook → List Count → Type 0
Worked joints places shows stamp brought calls answers rack counts =
    (es : List Event) × Replays joints places shows stamp (take (length answers) calls) (record { rack = brought; counts = replicate 256 empty }) answers es (record { rack = rack; counts = counts })

ran_one : (places : ℕ) (shows : ℕ → Option Size) (stamp : ℕ) (before after : List Count) (made : List Event) (e : Event) → made ≡ e ∷ [] → Step places shows stamp before e after → Ran places shows stamp before made after
ran_one places shows stamp before after made e q h = subst (λ es. Ran places shows stamp before es after) (sym q) (after, (h, refl))

ran_none : (places : ℕ) (shows : ℕ → Option Size) (stamp : ℕ) (before after : List Count) (made : List Event) → made ≡ [] → after ≡ before → Ran places shows stamp before made after
ran_none places shows stamp before after made q h = subst (λ es. Ran places shows stamp before es after) (sym q) h

ran_both : (places : ℕ) (shows : ℕ → Option Size) (stamp : ℕ) (before next after : List Count) (es fs : List Event)
    → Ran places shows stamp before es next → Ran places shows stamp next fs after → Ran places shows stamp before (es ++ fs) after
ran_both places shows stamp before next after [] fs h k = subst (λ c. Ran places shows stamp c fs after) h k
ran_both places shows stamp before next after (e ∷ es) fs h k = (h.0, (h.1.0, ran_both places shows stamp h.0 next after es fs h.1.1 k))

draws_ran : (places : ℕ) (shows : ℕ → Option Size) (stamp : ℕ) (joint : Option Means) (number : ℕ) (before : State) (a : Answer) (made : List Event) (after : State)
    → Draws shows stamp joint number before a made after → Ran places shows stamp before.counts made after.counts
draws_ran places shows stamp None number before a made after h = ran_none places shows stamp before.counts after.counts made h.1 (ap (λ s. s.counts) h.2)
draws_ran places shows stamp (Some joint) number before a made after h =
    ran_one places shows stamp before.counts after.counts made (drawing joint.standing joint.verdict number h.0) h.1.2 h.1.0

stays_ran : (places : ℕ) (shows : ℕ → Option Size) (stamp : ℕ) (held : Hook) (before after : List Count) (a : Answer) (made : List Event) (left : Hook)
    → Stays held before a made left after → Ran places shows stamp before made after
stays_ran places shows stamp held before after a made left h = ran_none places shows stamp before after made h.2 h.3

tacks_ran : (places : ℕ) (shows : ℕ → Option Size) (stamp : ℕ) (held : Hook) (before after : List Count) (a : Answer) (made : List Event) (left : Hook)
    → Tacks held before a made left after → Ran places shows stamp before made after
tacks_ran places shows stamp (Drawn slip) before after a made left h = ran_none places shows stamp before after made h.1.3 h.1.4
tacks_ran places shows stamp (Tacked slip) before after a made left h = stays_ran places shows stamp (Tacked slip) before after a made left h
tacks_ran places shows stamp Empty before after a made left h = stays_ran places shows stamp Empty before after a made left h

hands_back_ran : (places : ℕ) (shows : ℕ → Option Size) (stamp : ℕ) (held : Hook) (before after : List Count) (a : Answer) (made : List Event) (left : Hook)
    → HandsBack stamp held before a made left after → Ran places shows stamp before made after
hands_back_ran places shows stamp (Drawn slip) before after a made left h = ran_one places shows stamp before after made (hand_back slip h.0) h.1.3 h.1.0
hands_back_ran places shows stamp (Tacked slip) before after a made left h = stays_ran places shows stamp (Tacked slip) before after a made left h
hands_back_ran places shows stamp Empty before after a made left h = stays_ran places shows stamp Empty before after a made left h

presses_ran : (places : ℕ) (shows : ℕ → Option Size) (stamp : ℕ) (held : Hook) (before after : List Count) (a : Answer) (made : List Event) (left : Hook)
    → Presses stamp held before a made left after → Ran places shows stamp before made after
presses_ran places shows stamp (Drawn slip) before after a made left h = stays_ran places shows stamp (Drawn slip) before after a made left h
presses_ran places shows stamp (Tacked slip) before after a made left h = ran_one places shows stamp before after made (pressing slip h.0) h.1.3 h.1.0
presses_ran places shows stamp Empty before after a made left h = stays_ran places shows stamp Empty before after a made left h

voids_ran : (places : ℕ) (shows : ℕ → Option Size) (stamp : ℕ) (held : Hook) (before after : List Count) (a : Answer) (made : List Event) (left : Hook)
    → Voids held before a made left after → Ran places shows stamp before made after
voids_ran places shows stamp (Drawn slip) before after a made left h = ran_none places shows stamp before after made h.2 h.3
voids_ran places shows stamp (Tacked slip) before after a made left h = ran_none places shows stamp before after made h.2 h.3
voids_ran places shows stamp Empty before after a made left h = stays_ran places shows stamp Empty before after a made left h

does_ran : (joints : List Means) (places : ℕ) (shows : ℕ → Option Size) (stamp : ℕ) (c : Call) (before : State) (a : Answer) (made : List Event) (after : State)
    → Does joints places shows stamp c before a made after → Ran places shows stamp before.counts made after.counts
does_ran joints places shows stamp (call.Receive k pairs) before a made after h =
    ran_one places shows stamp before.counts after.counts made (receipt k pairs h.0) h.1.2 h.1.0
does_ran joints places shows stamp (call.Draw j number) before a made after h = draws_ran places shows stamp (slice_get joints j) number before a made after h
does_ran joints places shows stamp (call.Tack i) before a made after h =
    tacks_ran places shows stamp (hung before.rack i) before.counts after.counts a made h.0 h.1.0
does_ran joints places shows stamp (call.HandBack i) before a made after h =
    hands_back_ran places shows stamp (hung before.rack i) before.counts after.counts a made h.0 h.1.0
does_ran joints places shows stamp (call.Press i) before a made after h =
    presses_ran places shows stamp (hung before.rack i) before.counts after.counts a made h.0 h.1.0
does_ran joints places shows stamp (call.Void i) before a made after h =
    voids_ran places shows stamp (hung before.rack i) before.counts after.counts a made h.0 h.1.0
does_ran joints places shows stamp (call.Tell k) before a made after h =
    ran_one places shows stamp before.counts after.counts made (telling k h.0) h.1.2 (h.1.0, ap (λ s. s.counts) h.1.3)

replays_ran : (joints : List Means) (places : ℕ) (shows : ℕ → Option Size) (stamp : ℕ) (cs : List Call) (before : State) (said : List Answer) (es : List Event) (after : State)
    → Replays joints places shows stamp cs before said es after → Ran places shows stamp before.counts es after.counts
replays_ran joints places shows stamp [] before [] es after h = ran_none places shows stamp before.counts after.counts es h.0 (ap (λ s. s.counts) h.1)
replays_ran joints places shows stamp [] before (a ∷ said) es after h = absurd h
replays_ran joints places shows stamp (c ∷ cs) before [] es after h = absurd h
replays_ran joints places shows stamp (c ∷ cs) before (a ∷ said) es after h =
    subst (λ all. Ran places shows stamp before.counts all after.counts) (sym h.split)
    (ran_both places shows stamp before.counts h.next.counts after.counts h.made h.later
    (does_ran joints places shows stamp c before a h.made h.next h.begun)
    (replays_ran joints places shows stamp cs h.next said h.later after h.ended))

-- one call more
replays_more : (joints : List Means) (places : ℕ) (shows : ℕ → Option Size) (stamp : ℕ) (cs : List Call) (before : State) (said : List Answer) (es : List Event) (next : State) (c : Call) (a : Answer) (made : List Event) (after : State)
    → Replays joints places shows stamp cs before said es next → Does joints places shows stamp c next a made after → Replays joints places shows stamp (cs ++ c ∷ []) before (said ++ a ∷ []) (es ++ made) after
replays_more joints places shows stamp [] before [] es next c a made after h d =
    record { next = after; made = made; later = []; split = ap (λ l. l ++ made) h.0 ∙ sym (append-nil made); begun = subst (λ s. Does joints places shows stamp c s a made after) h.1 d; ended = (refl, refl) }
replays_more joints places shows stamp [] before (x ∷ said) es next c a made after h d = absurd h
replays_more joints places shows stamp (x ∷ cs) before [] es next c a made after h d = absurd h
replays_more joints places shows stamp (x ∷ cs) before (y ∷ said) es next c a made after h d =
    record {
      next = h.next;
      made = h.made;
      later = h.later ++ made;
      split = ap (λ l. l ++ made) h.split ∙ append_assoc h.made h.later made;
      begun = h.begun;
      ended = replays_more joints places shows stamp cs h.next said h.later next c a made after h.ended d;
    }

pub worked_none : (joints : List Means) (places : ℕ) (shows : ℕ → Option Size) (stamp : ℕ) (brought : List Hook) (calls : List Call) (answers : List Answer) (counts : List Count)
    → answers ≡ [] → counts ≡ replicate 256 empty → Worked joints places shows stamp brought calls answers brought counts
worked_none joints places shows stamp brought calls answers counts none start =
    subst (λ x. Worked joints places shows stamp brought calls x brought counts) (sym none)
    (subst (λ x. Worked joints places shows stamp brought calls [] brought x) (sym start) ([], (refl, refl)))

pub worked_more : (joints : List Means) (places : ℕ) (shows : ℕ → Option Size) (stamp : ℕ) (brought : List Hook) (calls : List Call) (old new : List Answer) (i : ℕ) (d : Call) (a : Answer) (next after : State)
    → length old ≡ i → i < length calls → new ≡ old ++ a ∷ []
    → Worked joints places shows stamp brought calls old next.rack next.counts → (made : List Event) × Does joints places shows stamp (get_or calls i d) next a made after
    → (length new ≡ i + 1) × Worked joints places shows stamp brought calls new after.rack after.counts
worked_more joints places shows stamp brought calls old new i d a next after len lt is w does =
    let start : State = record { rack = brought; counts = replicate 256 empty } in
    let count : length new ≡ i + 1 = ap length is ∙ length-append old (a ∷ []) ∙ ap (λ n. n + 1) len in
    let more : take (length new) calls ≡ take (length old) calls ++ get_or calls i d ∷ [] =
    ap (λ n. take n calls) count ∙ take_more calls i d lt ∙ ap (λ n. take n calls ++ get_or calls i d ∷ []) (sym len)
    in
    let all = replays_more joints places shows stamp (take (length old) calls) start old w.0 next (get_or calls i d) a does.0 after w.1 does.1 in (
      count,
      (
        w.0 ++ does.0,
        subst (λ cs. Replays joints places shows stamp cs start new (w.0 ++ does.0) after) (sym more)
            (subst (λ l. Replays joints places shows stamp (take (length old) calls ++ get_or calls i d ∷ []) start l (w.0 ++ does.0) after) (sym is) all),
      ),
    )

pub worked_replayed : (joints : List Means) (places : ℕ) (shows : ℕ → Option Size) (stamp : ℕ) (brought : List Hook) (calls : List Call) (answers : List Answer) (rack : List Hook) (counts : List Count)
    → Worked joints places shows stamp brought calls answers rack counts → Replayed joints places shows stamp brought calls answers rack counts
worked_replayed joints places shows stamp brought calls answers rack counts w =
    let start : State = record { rack = brought; counts = replicate 256 empty } in
    let end : State = record { rack = rack; counts = counts } in
    record {
      events = w.0;
      done = w.1;
      stands = the_law places shows stamp w.0 counts (replays_ran joints places shows stamp (take (length answers) calls) start answers w.0 end w.1);
    }
