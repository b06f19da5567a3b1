-- From what the steps do to a seat to what the calls say of it.
use Rattle.std.proofs.Common.{◌≡◌, ℕ, List, refl, sym, ap, ◌∙◌, subst, arith}
use Rattle.atomic_table.specs.Seated.{TableId}
use Rattle.annals.specs.declared.view.Role.{Role}
use Rattle.annals.specs.declared.view.Role.TheVariants.{Nobody, Dealer, Sits}
use Rattle.sseq.specs.Numbers.{IsNumber}
use Rattle.funnel.specs.Glossary.{Shape, Holder, Raise, Call, Level, leaf_of, value, made_by, IsLegal, View, loads_of, IsHolder, Owns, IsSound, FindsRoot, FunnelView, IsIdle, IsHistoryOf, Asks, IsAskedFor, LoadsRoot}
use Rattle.funnel.specs.declared.view.Holder.TheVariants.{Processor}
use Rattle.funnel.specs.declared.view.Call.TheVariants.{Idle}
use Rattle.funnel.specs.Seats as seats
use Rattle.funnel.specs.Calls.{Covers, Accepts}
use Rattle.funnel.proofs.Asked.{value_is_number, value_later}

abbrev pub seen_as : TableId → Shape → Holder → View → FunnelView
seen_as d shape h v = record { domain = d; shape = shape; holder = h; seen = v.seen; mine = v.client.mine; loads = loads_of h v.done }

-- what a seat at rest has seen
own_of : (role : Role) (h : Holder) (mine seen : List Raise) (call : Call) → IsHolder role h → Owns role mine call seen → call ≡ Idle → (mine ≡ made_by h seen) × IsIdle h seen
own_of Nobody h mine seen call is owns idle = absurd is
own_of (Sits p) h mine seen call is owns idle = subst (λ (z : Holder). (mine ≡ made_by z seen) × IsIdle z seen) (sym is) (owns.0, sym owns.1 ∙ idle)
own_of (Dealer k) h mine seen call is owns idle = subst (λ (z : Holder). (mine ≡ made_by z seen) × IsIdle z seen) (sym is) (owns.0, tt)

pub history_of : (shape : Shape) (h : Holder) (w : View) → w.client.shape ≡ shape → IsHolder w.role h → IsSound w → w.client.call ≡ Idle → IsHistoryOf shape h w.client.mine w.seen
history_of shape h w shaped is sound idle = let own = own_of w.role h w.client.mine w.seen w.client.call is sound.owns idle in record {
  legal = subst (λ z. IsLegal z w.seen) shaped sound.legal;
  own = own.0;
  idle = own.1;
}

pub still_holder : (h : Holder) (v w : View) → w.role ≡ v.role → IsHolder v.role h → IsHolder w.role h
still_holder h v w same is = subst (λ (r : Role). IsHolder r h) (sym same) is

pub asks_from : (d d' : TableId) (shape : Shape) (h : Holder) (p leaf m n : ℕ) (v w : View) (level : Level) → d' ≡ d → v.client.shape ≡ shape → IsHolder v.role h → h ≡ Processor p → leaf ≡ leaf_of shape.nodes p → m ≡ n → seats.Climbs p leaf m v level w
    → Asks n (seen_as d shape h v) level (seen_as d' shape h w)
asks_from d d' shape h p leaf m n v w level same shaped holder is at number c =
    let here : seats.Climbs p (leaf_of shape.nodes p) n v level w = subst (λ (z : ℕ × ℕ). seats.Climbs p z.0 z.1 v level w) (λ i. (at i, number i)) c in record {
      same = record { domain = same; shape = refl; holder = refl };
      processor = p;
      asker = is;
      above = here.above;
      nodes = here.nodes;
      below = here.below;
      mine = here.mine;
      before = here.before;
      since = here.since;
      seen = here.seen;
      holds = here.holds;
      found = here.found;
      at_root = here.at_root;
      loads = ap (loads_of h) here.loads;
      history = history_of shape h w (here.shape ∙ shaped) (still_holder h v w here.role holder) here.rests.sound here.rests.idle;
    }

pub asked_for : (n : ℕ) (v w : FunnelView) (level : Level) → Asks n v level w → IsAskedFor n level w
asked_for n v w level a missed = let holds = a.holds in let root = ap (λ z. value z w.seen) (a.at_root missed) in omega (arith, holds, root)

pub loads_root : (d d' : TableId) (shape : Shape) (h : Holder) (n : ℕ) (v w : View) → d' ≡ d → v.client.shape ≡ shape → IsHolder v.role h → v.client.call ≡ Idle → FindsRoot n v w → LoadsRoot (seen_as d shape h v) n (seen_as d' shape h w)
loads_root d d' shape h n v w same shaped is idle f = record {
  same = record { domain = same; shape = refl; holder = refl };
  mine = f.load.mine;
  loads = f.load.loads h is;
  since = f.since;
  current = f.current;
  not_below = (let current = f.current in let grows = value_later 0 f.since in omega (arith, current, grows));
  history = history_of shape h w (f.load.shape ∙ shaped) (still_holder h v w f.load.role is) f.load.sound (f.load.call ∙ idle);
}

pub root_is_number : (n : ℕ) (v w : View) → FindsRoot n v w → IsNumber n
root_is_number n v w f = subst IsNumber (sym f.current) (value_is_number w.client.shape w.seen 0 f.load.sound.legal)

pub covers_call : (d d' : TableId) (shape : Shape) (h : Holder) (v o w : View) → d' ≡ d → v.client.shape ≡ shape → IsHolder v.role h → v.client.call ≡ Idle → seats.Covers v o w → Covers (seen_as d shape h v) o.seen (seen_as d' shape h w)
covers_call d d' shape h v o w same shaped is idle c = record {
  found = c.found;
  load = record {
    same = record { domain = same; shape = refl; holder = refl };
    mine = c.load.mine;
    loads = c.load.loads h is;
    since = c.since;
    current = c.current;
    not_below = (let current = c.current in let grows = value_later 0 c.since in omega (arith, current, grows));
    history = history_of shape h w (c.load.shape ∙ shaped) (still_holder h v w c.load.role is) c.load.sound (c.load.call ∙ idle);
  };
  covers = c.covers;
}

pub accepts_call : (d d' : TableId) (shape : Shape) (h : Holder) (v o w : View) → d' ≡ d → v.client.shape ≡ shape → IsHolder v.role h → v.client.call ≡ Idle → seats.Accepts v o w → Accepts (seen_as d shape h v) o.seen (seen_as d' shape h w)
accepts_call d d' shape h v o w same shaped is idle c = record {
  found = c.found;
  same = record { domain = same; shape = refl; holder = refl };
  mine = c.load.mine;
  loads = c.load.loads h is;
  seen = c.seen;
  not_below = (let low = c.not_below in let at = ap (value 0) c.seen in omega (arith, low, at));
  history = history_of shape h w (c.load.shape ∙ shaped) (still_holder h v w c.load.role is) c.load.sound (c.load.call ∙ idle);
}
