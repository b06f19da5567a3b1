-- What the calls for callbacks do: a job is queued and its grace period asked for, and a batch is finished.
use Rattle.std.specs.Prelude.{◌≡◌, ◌<◌, []}
use Rattle.funnel.specs.declared.seat.Level.{Level}
use Rattle.funnel.specs.Calls as tree
use Rattle.calls.specs.declared.refusals.CallRefusal.{CallRefusal}
use Rattle.calls.specs.Views.{BatchView, ReceiptView}
use Rattle.calls.specs.Calls.{QueuesIn, RefusesIn}
use Rattle.domain.specs.Views.{DomainView, CpuView, callbacks_of, with_cpu}

module _ {J : Type 0} where
  -- the job was queued, and then just the number of its cookie asked for
  pub record CallsIn (d : DomainView) (c : CpuView J) (job : J) (r : ReceiptView J) (c' : CpuView J) : Type 0 where
    pub queues : QueuesIn (callbacks_of d) c.cpu c.calls job r c'.cpu c'.calls
    pub level : Level
    pub asks : tree.Asks r.cookie.number c.needs level c'.needs
    pub root : tree.IsAskedFor r.cookie.number level c'.needs
    pub turn : c'.turn ≡ c.turn

  -- the job comes back, and nothing was asked for. Nothing but the seat at the domain's words may have changed
  pub record RefusesCall (d : DomainView) (c : CpuView J) (job : J) (refused : J × CallRefusal) (c' : CpuView J) : Type 0 where
    pub refuses : RefusesIn (callbacks_of d) c.cpu c.calls job refused c'.cpu c'.calls
    pub rest : c' ≡ with_cpu c'.cpu c

  -- the batch is empty, and one of this domain's
  pub record MayFinish (d : DomainView) (b : BatchView J) : Type 0 where
    pub empty : b.entries ≡ []
    pub tallies : b.tallies ≡ d.tallies
    pub there : b.processor < d.processors
