use Rattle.sections.proofs.Banking.{free_nothing, free_section, free_shelf}
use Rattle.std.proofs.Common.{rules, ◌≡◌, inl, inr, Bool, [], ◌∷◌, ◌++◌, refl, ap, ◌∙◌, subst}
use Rattle.onedom.specs.declared.event.Event.TheVariants.{Ask}
use Rattle.onedom.specs.declared.event.Maker.TheVariants.{Processor}
use Rattle.sections.specs.Glossary.{View, word_count, bearer, view_of_cpu, CookieView, Asks, AllClosed}
use Rattle.sections.proofs.Sharing.{gives_token, takes_token}
use Rattle.sections.proofs.Seating.{some_words}
use Rattle.sections.proofs.CpuViews.{asks_alone, asks_unheard, rests_told, all_closed}
use Rattle.sections.proofs.Staying.{stays_told}
use Rattle.sections.proofs.Asking.{asks_cpu, asks}
use Rattle.sections.proofs.Polling.{given_by, given_as, given_there, given_by_none}
use Rattle.sections.proofs.cpu.Cpu.poll.Goals as goal

pub ask_number-requires-clause-cookie : goal.ask_number-requires-clause-cookie
ask_number-requires-clause-cookie g c = (refl, inl refl)

pub invariant_of-self : goal.invariant_of-self
invariant_of-self g c =
    let told = c.ask_number.ensures in
    let a = told.adds c.self.inside.processor c.self.invariant.role in
    stays_told c.self.invariant told.same_table (told.bare ∙ c.self.invariant.placed.bare) (rests_told _ _ _ c.self.invariant.rests.free told.right a) refl refl a refl (λ _. refl) (λ _. refl)

pub returns-in_default-clause-asks : goal.returns-in_default-clause-asks
returns-in_default-clause-asks g c =
    let told = c.ask_number.ensures in
    let a = told.adds c.self.inside.processor c.self.invariant.role in
    rw (← c.self.view_is)
    (subst (λ (k : CookieView). Asks k.seen k.changes k.number c.ask_number.result (view_of_cpu c.self.inside) (view_of_cpu (record c.self.inside { seat = c.ask_number.new.seat }))) (given_by_none c.args.cookie.now c.cookie.view_is c.in_default.is c.cookie.invariant)
    (asks_unheard 1 c.ask_number.result (asks_alone told.number 1 c.ask_number.result _ _ _ _ _ c.self.inside.seat.me.0 c.ask_number.new.seat.me.0 told.same_table c.self.invariant.placed.sized c.self.invariant.role told.finds told.answer_is a)))

pub split_seat-token-requires : goal.split_seat-token-requires
split_seat-token-requires g c = let wide : c.deref.result.now.shared.table_id.words ≡ word_count c.deref.result.now.shared.key.processors c.deref.result.now.shared.key.cells = search rules in
    let home = given_there c.in-Some.given c.args.cookie.now c.args.self.now.domain c.cookie.view_is c.in-Some.is c.cookie.invariant c.requires in
    (home ∙ search rules, some_words _ _ _ wide, gives_token _ _ _ (search (rules, free_nothing, free_section, free_shelf)))

pub join_seat-requires : goal.join_seat-requires
join_seat-requires g c = let wide : c.deref.result.now.shared.table_id.words ≡ word_count c.deref.result.now.shared.key.processors c.deref.result.now.shared.key.cells = search rules in
    let home = given_there c.in-Some.given c.args.cookie.now c.args.self.now.domain c.cookie.view_is c.in-Some.is c.cookie.invariant c.requires in
    (search rules, c.split_seat-token.ensures.3 ∙ (home ∙ search rules), ap (λ m. m.1) c.split_seat-token.ensures.4, some_words _ _ _ wide, takes_token _ _ _ _ _ (search (rules, free_nothing, free_section, free_shelf)) (search (rules, free_nothing, free_section, free_shelf)))

pub ask_number-requires-2-clause-cookie : goal.ask_number-requires-2-clause-cookie
ask_number-requires-2-clause-cookie g c = (refl, inr (given_by c.in-Some.given c.in-Some.is c.cookie.invariant).whole)

pub ask_number-requires-2-clause-role : goal.ask_number-requires-2-clause-role
ask_number-requires-2-clause-role g c = (c.self.inside.processor, ap (λ m. m.0.role) c.join_seat.ensures.2 ∙ c.self.invariant.role, search rules)

pub invariant_of-self-2 : goal.invariant_of-self-2
invariant_of-self-2 g c =
    let given = given_by c.in-Some.given c.in-Some.is c.cookie.invariant in
    asks_cpu c.self.invariant c.ask_number-2.new.seat c.split_seat-token.result _ c.join_seat.ensures.0 c.join_seat.ensures.2 c.split_seat-token.ensures.4 c.ask_number-2.ensures (refl, refl) (ap (λ (v : View). v.right) given.plain)

pub returns-clause-asks : goal.returns-clause-asks
returns-clause-asks g c =
    rw (← c.self.view_is)
    (subst (λ (k : CookieView). Asks k.seen k.changes k.number c.ask_number-2.result (view_of_cpu c.self.inside) (view_of_cpu (record c.self.inside { seat = c.ask_number-2.new.seat }))) (given_as c.in-Some.given c.args.cookie.now c.cookie.view_is c.in-Some.is)
    (asks c.self.invariant c.ask_number-2.new.seat c.split_seat-token.result (bearer c.in-Some.given.me.0) c.join_seat.ensures.0 c.join_seat.ensures.2 c.split_seat-token.ensures.4 c.ask_number-2.ensures (refl, refl)))

pub returns-clause-closed : goal.returns-clause-closed
returns-clause-closed g c t =
    let given = given_by c.in-Some.given c.in-Some.is c.cookie.invariant in
    let asked = asks c.self.invariant c.ask_number-2.new.seat c.split_seat-token.result (bearer c.in-Some.given.me.0) c.join_seat.ensures.0 c.join_seat.ensures.2 c.split_seat-token.ensures.4 c.ask_number-2.ensures (refl, refl) in
    subst (λ (k : CookieView). AllClosed k.seen c.ask_number-2.new.seat.me.0.seen) (given_as c.in-Some.given c.args.cookie.now c.cookie.view_is c.in-Some.is)
    (all_closed c.cookie.inside.number c.in-Some.given.me.0.seen asked.adds.before c.ask_number-2.new.seat.me.0.seen (Processor c.self.inside.processor) given.given asked.adds.covers
    (asked.adds.seen ∙ ap (λ (b : Bool). asked.adds.before ++ Ask c.cookie.inside.number b (Processor c.self.inside.processor) ∷ []) t) asked.adds.history.legal)
