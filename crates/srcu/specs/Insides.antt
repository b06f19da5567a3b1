-- How the fields of a worker are seen.
use Rattle.srcu.specs.declared.worker.Worker.TheInside as worker
use Rattle.driver.specs.Pools.{IsIdle}
use Rattle.srcu.specs.Workers.{WorkerView}

abbrev pub view_of_worker : {J A : Type 0} → worker.Inside J A → WorkerView J
view_of_worker w = record { domain = w.domain.now; cpu = w.cpu }

abbrev pub IsWorker : {J A : Type 0} → worker.Inside J A → Type 0
IsWorker w = IsIdle w.domain.now w.cpu
