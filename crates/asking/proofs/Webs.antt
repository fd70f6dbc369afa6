-- A web sheet of a job of web joints: its joint is the web joint, and the job's plates are those of its list.
use Rattle.std.proofs.Common.{◌≡◌, ℕ, List, [], Some, None, Option, Result, refl, sym, ap, ◌∙◌, subst, vec_items, false}
use Rattle.plates.specs.Size.{Size}
use Rattle.plates.specs.declared.refusals.Refusal.{Refusal}
use Rattle.plates.specs.declared.turnings.Turning.{Turning}
use Rattle.plates.specs.declared.verdicts.Verdict.{Verdict}
use Rattle.supplies.specs.Hiding.{unless}
use Rattle.supplies.specs.Layers.{layered_shows}
use Rattle.supplies.specs.Rows.{list_places, list_shows}
use Rattle.supplies.specs.declared.layered.Layer.{Layer}
use Rattle.supplies.specs.declared.list.Row.{Row}
use Rattle.joints.specs.Any.{AnyJoint, any_draws, any_asks, any_standing, any_verdict}
use Rattle.joints.specs.Grounds.{stands}
use Rattle.joints.specs.Verdict.{first_missed}
use Rattle.joints.specs.Web.{WebJoint, web_standing, web_verdict}
use Rattle.joints.specs.declared.any.AnySheet.{AnySheet}
use Rattle.joints.specs.declared.any.AnySheet.TheVariants.{Web}
use Rattle.joints.specs.declared.sheets.Sheet.{Sheet}
use Rattle.choice.specs.Choosing.{Chosen, Judged}
use Rattle.blocks.specs.declared.sheets.Tried.{Tried}
use Rattle.piles.specs.declared.coils.Coil.{Coil}
use Rattle.jobs.specs.Fits.{Fits}
use Rattle.jobs.specs.Reading.{said}
use Rattle.jobs.specs.declared.openers.Format.TheVariants.{Webs}
use Rattle.jobs.specs.declared.reader.Entry.{Entry}
use Rattle.jobs.specs.declared.reader.Job.{Job}
use Rattle.asking.specs.Picks.{as_choice, Shown}
use Rattle.asking.specs.Piles.{pile_places, pile_shows, stock_places, stock_shows}
use Rattle.asking.specs.Sheets.{Drawn, Picks, Judges}
use Rattle.asking.specs.Webs.{WebDrawn, WebPicks, WebJudges}
use Rattle.asking.specs.declared.picks.Picked.{Picked}

bare : (o : Option Size) → unless (λ s. false) o ≡ o
bare None = refl
bare (Some s) = refl

-- under no layers a stock without a coil shows its list
listed : (coil : Option Coil) (rows : List Row) (layers : List Layer) → coil ≡ None → layers ≡ [] → layered_shows layers (stock_shows coil rows) ≡ list_shows rows
listed coil rows layers none empty =
    ap (λ ls. layered_shows ls (stock_shows coil rows)) empty ∙ ap (λ c. layered_shows [] (stock_shows c rows)) none ∙ (λ i k. bare (list_shows rows k) i)

abbrev web_of : AnyJoint → Sheet → WebJoint
web_of j s = record { sheet = s; members = j.members; cards = j.cards }

drawn_web : (job : Job) (e : Entry) (s : Sheet) (j : AnyJoint) → Drawn job e j → WebDrawn job s (web_of j s)
drawn_web job e s j drawn = record { sheet = refl; members = drawn.members; cards = drawn.cards }

stands_web : (j : AnyJoint) (s : Sheet) → j.sheet ≡ Web s → any_standing j ≡ web_standing (web_of j s)
stands_web j s is = ap (λ a. stands (any_draws a j.members.now j.cards.now)) is

judges_web : (j : AnyJoint) (s : Sheet) → j.sheet ≡ Web s → any_verdict j ≡ web_verdict (web_of j s)
judges_web j s is = ap (λ a p t. first_missed (any_asks a j.members.now j.cards.now p t) (any_draws a j.members.now j.cards.now).members) is

abbrev any_of : WebJoint → AnyJoint
any_of w = record { sheet = Web w.sheet; members = w.members; cards = w.cards }

-- the choice for the web joint of a web sheet is that for its joint of any kind
pub picks_of_web : (job : Job) (e : Entry) (s : Sheet) (w : WebJoint) (r : Result Picked Refusal) → e.sheet ≡ Web s → WebDrawn job s w → Chosen (web_standing w) (web_verdict w) (pile_places job) (pile_shows job) (as_choice r) → Shown (pile_shows job) r → Picks job e r
picks_of_web job e s w r is drawn chosen shown =
    (any_of w, record { sheet = ap (λ x. Web x) drawn.sheet ∙ sym is; members = drawn.members; cards = drawn.cards }, chosen, shown)

pub web_picks : (job : Job) (e : Entry) (s : Sheet) (r : Result Picked Refusal) → e.sheet ≡ Web s → Fits Webs (said job) → Picks job e r → WebPicks job s r
web_picks job e s r is fits (j, drawn, chosen, shown) =
    let same : j.sheet ≡ Web s = drawn.sheet ∙ is in
    let pile = listed job.coil (vec_items job.rows) (vec_items job.layers) fits.0 fits.1 in
    let places = ap (λ c. stock_places c (vec_items job.rows)) fits.0 in
    let standing = subst (λ st. Chosen st (any_verdict j) (stock_places job.coil (vec_items job.rows)) (layered_shows (vec_items job.layers) (stock_shows job.coil (vec_items job.rows))) (as_choice r)) (stands_web j s same) chosen in
    let verdict = subst (λ v. Chosen (web_standing (web_of j s)) v (stock_places job.coil (vec_items job.rows)) (layered_shows (vec_items job.layers) (stock_shows job.coil (vec_items job.rows))) (as_choice r)) (judges_web j s same) standing in
    let counted = subst (λ n. Chosen (web_standing (web_of j s)) (web_verdict (web_of j s)) n (layered_shows (vec_items job.layers) (stock_shows job.coil (vec_items job.rows))) (as_choice r)) places verdict in
    let of_list = subst (λ shows. Chosen (web_standing (web_of j s)) (web_verdict (web_of j s)) (list_places (vec_items job.rows)) shows (as_choice r)) pile counted in
    (web_of j s, drawn_web job e s j drawn, of_list, subst (λ shows. Shown shows r) pile shown)

pub web_judges : (job : Job) (e : Entry) (s : Sheet) (t : Tried) (r : Result Verdict Refusal) → e.sheet ≡ Web s → Judges job e t r → WebJudges job s t r
web_judges job e s t r is (j, drawn, judged) =
    let same : j.sheet ≡ Web s = drawn.sheet ∙ is in
    (web_of j s, drawn_web job e s j drawn, subst (λ v. Judged (web_standing (web_of j s)) v t.plate t.turning r) (judges_web j s same) (subst (λ st. Judged st (any_verdict j) t.plate t.turning r) (stands_web j s same) judged))
