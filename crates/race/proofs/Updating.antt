-- What each call of the updater's processor adds to what the updater tells.
use Rattle.std.proofs.Common.{◌≡◌, ℕ, ◌+◌, ◌^◌, ◌<◌, inl, inr, List, [], ◌∷◌, ◌++◌, refl, sym, ap, ◌∙◌, append_assoc, arith}
use Rattle.race.proofs.Words.{Event, WriterView, questions, Processor, Note, Put, CpuView, IsOf, loads, notes, takes, asks_for, finishes, ActsAs, TableState, Course, Updater, IsUpdaterOf, Tells, GoesOn}
use Rattle.sseq.specs.Numbers.{cookie_at}
use Rattle.domain.specs.Publishing.{Frees}
use Rattle.plugs.specs.Changes.{Publishes, Installs, LacksSlotFor}
use Rattle.race.proofs.Counted.{quiet_append, questions_quiet, Adds, adds_nothing, adds_act, tells_after}

module _ (g : Course) (u : Updater) (is : IsUpdaterOf g u) (tells : Tells u) where
  -- the number of the seat at the tally words is that of the processor
  same_number : u.cpu.calls.processor ≡ u.cpu.cpu.processor
  same_number = sym is.here.fits.cpu

  goes_on : (v dq df : ℕ) (u' : Updater) → IsOf g.domain u'.cpu → u'.table.writer.domain ≡ u.table.writer.domain → u'.cpu.cpu.processor ≡ u.cpu.cpu.processor → Adds dq df u.cpu u'.cpu → u'.versions ≡ u.versions + v → u'.queued ≡ u.queued + dq → (u.finished + df < 2 ^ 64 → u'.finished ≡ u.finished + df) → GoesOn g v dq u u'
  goes_on v dq df u' here table processor adds versions queued finished = record {
    is = record { here = here; table = table ∙ is.table };
    tells = record {
      opened = adds.opened ∙ tells.opened;
      closed = adds.closed ∙ tells.closed;
      calls = tells_after dq df u.queued u.finished u'.queued u'.finished u.cpu u'.cpu adds tells.calls queued finished;
    };
    processor = processor;
    versions_are = versions;
    queued_are = queued;
  }

  -- a call that only loads
  pub after_loads : (cpu : CpuView Unit) → IsOf g.domain cpu → ActsAs loads u.cpu cpu → GoesOn g 0 0 u (record u { cpu = cpu })
  after_loads cpu here acts = goes_on 0 0 0 (record u { cpu = cpu }) here refl acts.events.same.3
      (adds_act u.cpu.cpu.processor (loads u.cpu.cpu.processor) u.cpu cpu acts same_number (record { opened = refl; closed = refl }) (inl refl)) (omega arith) (omega arith) (λ few. omega arith)

  -- a call that was queued
  pub after_call : (cookie : ℕ) (cpu : CpuView Unit) → IsOf g.domain cpu → ActsAs (asks_for cookie 1) u.cpu cpu → GoesOn g 0 1 u (record u { cpu = cpu; queued = u.queued + 1 })
  after_call cookie cpu here acts = goes_on 0 1 0 (record u { cpu = cpu; queued = u.queued + 1 }) here refl acts.events.same.3
      (adds_act u.cpu.cpu.processor (asks_for cookie 1 u.cpu.cpu.processor) u.cpu cpu acts same_number (record { opened = refl; closed = refl }) (inl refl)) (omega arith) (omega arith) (λ few. omega arith)

  -- a look at what is ready
  pub after_take : (changes owner : ℕ) (cpu : CpuView Unit) → IsOf g.domain cpu → ActsAs (takes changes owner) u.cpu cpu → GoesOn g 0 0 u (record u { cpu = cpu })
  after_take changes owner cpu here acts = goes_on 0 0 0 (record u { cpu = cpu }) here refl acts.events.same.3
      (adds_act u.cpu.cpu.processor (takes changes owner u.cpu.cpu.processor) u.cpu cpu acts same_number (record { opened = refl; closed = refl }) (inl refl)) (omega arith) (omega arith) (λ few. omega arith)

  -- the end of a batch of its own
  pub after_finish : (owner count : ℕ) (u' : Updater) → IsOf g.domain u'.cpu → ActsAs (finishes owner count) u.cpu u'.cpu → owner ≡ u.cpu.cpu.processor → u'.table ≡ u.table → u'.versions ≡ u.versions → u'.queued ≡ u.queued → (u.finished + count < 2 ^ 64 → u'.finished ≡ u.finished + count) → GoesOn g 0 0 u u'
  after_finish owner count u' here acts own table versions queued finished = goes_on 0 0 count u' here (ap (λ (t : TableState). t.writer.domain) table) acts.events.same.3
      (adds_act u.cpu.cpu.processor (finishes owner count u.cpu.cpu.processor) u.cpu u'.cpu acts same_number (record { opened = refl; closed = refl }) (inr own)) (omega (arith, versions)) (omega (arith, queued)) finished

-- Changes of the table

freed : (w w' : WriterView) (c c' : CpuView Unit) → Frees w c w' c' → Adds 0 0 c c'
freed w w' c c' h = adds_nothing c c' _ (ap (λ (x : CpuView Unit). x.calls) h.rest) h.reclaims.mine (questions_quiet c.cpu.processor h.reclaims.done w w.slots)

in_row : (a b : List Event) (d e : Event) → ((a ++ b) ++ d ∷ []) ++ e ∷ [] ≡ a ++ (b ++ d ∷ e ∷ [])
in_row a b d e = append_assoc (a ++ b) (d ∷ []) (e ∷ []) ∙ append_assoc a b (d ∷ e ∷ [])

published : (text : List ℕ) (version : ℕ) (w w' : WriterView) (c c' : CpuView Unit) → Publishes text version w c w' c' → Adds 0 0 c c'
published text version w w' c c' h =
    let put = h.puts.puts.puts in
    let free = h.claims.frees in
    let asked = questions c.cpu.processor free.reclaims.done w w.slots in
    let mine : c'.cpu.mine ≡ c.cpu.mine ++ (asked ++ Put h.puts.filled.cell h.slot.slot (h.puts.filled.version + 1) (Processor h.at.cpu.processor) ∷ Note (cookie_at put.number) (Processor put.between.processor) ∷ []) =
    put.notes.adds.mine ∙ (ap (λ l. l ++ Note (cookie_at put.number) (Processor put.between.processor) ∷ []) (put.puts.mine ∙ ap (λ l. l ++ Put h.puts.filled.cell h.slot.slot (h.puts.filled.version + 1) (Processor h.at.cpu.processor) ∷ []) free.reclaims.mine) ∙ in_row c.cpu.mine asked (Put h.puts.filled.cell h.slot.slot (h.puts.filled.version + 1) (Processor h.at.cpu.processor)) (Note (cookie_at put.number) (Processor put.between.processor))) in
    adds_nothing c c' _ (h.puts.puts.calls ∙ ap (λ (x : CpuView Unit). x.calls) free.rest) mine (quiet_append asked _ (questions_quiet c.cpu.processor free.reclaims.done w w.slots) (record { opened = refl; closed = refl }))

module _ (g : Course) (u : Updater) (is : IsUpdaterOf g u) (tells : Tells u) where
  -- a version was installed
  pub after_install : (key plug version : ℕ) (t : TableState) (cpu : CpuView Unit) → IsOf g.domain cpu → t.writer.domain ≡ u.table.writer.domain → Installs key plug version u.table u.cpu t cpu → GoesOn g 1 0 u (record u { cpu = cpu; table = t; versions = u.versions + 1 })
  after_install key plug version t cpu here same h = goes_on g u is tells 1 0 0 (record u { cpu = cpu; table = t; versions = u.versions + 1 }) here same (install_same h) (published _ version u.table.writer t.writer u.cpu cpu h.publishes) (omega arith) (omega arith) (λ few. omega arith)
    where
      install_same : Installs key plug version u.table u.cpu t cpu → cpu.cpu.processor ≡ u.cpu.cpu.processor
      install_same i = i.publishes.puts.puts.puts.notes.adds.same.3 ∙ (i.publishes.puts.puts.puts.puts.same.3 ∙ i.publishes.claims.frees.reclaims.same.1.3)

  -- no slot was free
  pub after_none : (key : ℕ) (t : TableState) (cpu : CpuView Unit) → IsOf g.domain cpu → t.writer.domain ≡ u.table.writer.domain → LacksSlotFor key u.table u.cpu t cpu → GoesOn g 0 0 u (record u { cpu = cpu; table = t })
  after_none key t cpu here same h = goes_on g u is tells 0 0 0 (record u { cpu = cpu; table = t }) here same h.none.frees.reclaims.same.1.3 (freed u.table.writer t.writer u.cpu cpu h.none.frees) (omega arith) (omega arith) (λ few. omega arith)

-- One step, and then another
pub on_and_on : (g : Course) (v q w r : ℕ) (a b c : Updater) → GoesOn g v q a b → GoesOn g w r b c → GoesOn g (v + w) (q + r) a c
on_and_on g v q w r a b c one next = record {
  is = next.is;
  tells = next.tells;
  processor = next.processor ∙ one.processor;
  versions_are = let x = one.versions_are in let y = next.versions_are in omega (arith, x, y);
  queued_are = let x = one.queued_are in let y = next.queued_are in omega (arith, x, y);
}
