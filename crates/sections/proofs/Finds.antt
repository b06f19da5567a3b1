-- A member of a set of cookies is found done.
use Rattle.std.proofs.Common.{◌≡◌, ℕ, ◌+◌, ◌<◌, ◌&&◌, Bool, true, false, IsTrue, if◌then◌else◌, eqb, List, [], ◌∷◌, ◌++◌, All, Option, None, Some, MatchOption, length, take, get_or, refl, sym, ap, ◌∙◌, subst, arith}
use Rattle.std.proofs.lemmas.List.{take_more}
use Rattle.std.proofs.lemmas.List.Folds.{list_all_more}
use Rattle.std.proofs.lemmas.List.Elements.{All-push}
use Rattle.std.specs.Option.{is_some}
use Rattle.std.specs.List.{list_all}
use Rattle.atomic_table.specs.Seated.{TableId}
use Rattle.onedom.specs.declared.event.Maker.TheVariants.{Processor}
use Rattle.onedom.specs.declared.event.Event.TheVariants.{Ask}
use Rattle.onedom.specs.declared.event.Event.{Event}
use Rattle.onedom.specs.Histories.{ends, IsBeginning}
use Rattle.onedom.proofs.CallerLemmas.{beginning_trans, begins_grow, count_grows}
use Rattle.sections.specs.Glossary.{CpuView, CookieView, IsKnownIn, SightView, sight_of, Asks, AllClosed, Hears, MemberView, is_found, IsFoundDone, IsDoneThere}
use Rattle.sections.specs.Sets.{CatchesUp}

pub found_done : (k k' : CookieView) (s : SightView) (b : Bool) (c c' : CpuView) → k' ≡ k → s ≡ sight_of c' → IsKnownIn c.domain k → b ≡ true → Asks k.seen k.changes k.number b c c' → (IsTrue b → AllClosed k.seen c'.seen) → IsFoundDone k' s
found_done k k' s b c c' same is here done asks closed = subst (λ (z : CookieView). IsFoundDone z s) (sym same) (subst (λ (z : SightView). IsFoundDone k z) (sym is) record {
  here = subst (λ (d : TableId). IsKnownIn d k) (sym asks.adds.same.0) here;
  before = asks.adds.before;
  by = Processor c.processor;
  covers = asks.adds.covers;
  asked = asks.adds.seen ∙ ap (λ (x : Bool). asks.adds.before ++ Ask k.number x (Processor c.processor) ∷ []) done;
  legal = asks.adds.history.legal;
  closed = closed done;
})

-- one member more was found done
pub done_on : (members : List MemberView) (i : ℕ) (d : MemberView) → i < length members → IsDoneThere (get_or members i d) → All IsDoneThere (take i members) → All IsDoneThere (take (i + 1) members)
done_on members i d inside one all = subst (λ (l : List MemberView). All IsDoneThere l) (sym (take_more members i d inside)) (All-push IsDoneThere (take i members) (get_or members i d) all one)

pub found_on : (members : List MemberView) (i : ℕ) (d : MemberView) → i < length members → is_found (get_or members i d) ≡ true → list_all is_found (take i members) ≡ true → list_all is_found (take (i + 1) members) ≡ true
found_on members i d inside one all = list_all_more is_found members i d inside ∙ (λ j. all j && one j)

pub done_with : (k : CookieView) (o : Option SightView) → is_some o ≡ true → MatchOption o (Unit {0}) (λ s. IsFoundDone k s) → IsDoneThere (record { cookie = k; found = o })
done_with k None some h = absurd cc
done_with k (Some s) some h = record { sight = s; found = refl; done = h }

-- what was closed in a history stays closed where it goes on
closed_on : (seen now later : List Event) → IsBeginning seen now → IsBeginning now later → AllClosed seen now → AllClosed seen later
closed_on seen now later before on closed s was_open still =
    let begun = begins_grow s before in
    let ended = count_grows (ends s) on in
    let some = was_open.0 in
    let none = still.1 in
    closed s was_open (omega (arith, begun, some), omega (arith, ended, none))

-- a member that was found done, and is not the completed one, brings what was seen there
pub found_brings : (k : CookieView) (o : Option SightView) (s : SightView) (c c' : CpuView) → o ≡ Some s → eqb k.number 1 ≡ false → MatchOption o (Unit {0}) (λ z. IsFoundDone k z) → Hears c s.seen s.changes c' → CatchesUp (record { cookie = k; found = o }) c c'
found_brings k o s c c' is given found hears =
    let done : IsFoundDone k s = subst (λ (z : Option SightView). MatchOption z (Unit {0}) (λ x. IsFoundDone k x)) is found in
    subst (λ (z : Option SightView). CatchesUp (record { cookie = k; found = z }) c c') (sym is) (record {
      hears = subst (λ (b : Bool). MatchOption (if b then None else Some s) (c' ≡ c) (λ x. Hears c x.seen x.changes c')) (sym given) hears;
      closed = λ _. closed_on k.seen s.seen c'.seen (beginning_trans done.covers (record { rest = Ask k.number true done.by ∷ []; whole = done.asked })) hears.covers done.closed;
    })
