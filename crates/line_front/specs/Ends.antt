-- The ends that puts and services come to.
use Rattle.std.specs.Prelude.{Option, Some, None}
use Rattle.carbon_history.specs.declared.entry.PutEnd.{PutEnd}
use Rattle.carbon_history.specs.declared.entry.PutEnd.TheVariants as entered
use Rattle.point_cache.specs.declared.put.Put.{Put}
use Rattle.point_cache.specs.declared.put.Put.TheVariants as put
use Rattle.line_service.specs.declared.ends.ServiceEnd.{ServiceEnd}
use Rattle.line_service.specs.declared.ends.ServiceEnd.TheVariants as end
use Rattle.line_service.specs.declared.ends.Stop.TheVariants as stop
use Rattle.line_front.specs.declared.ends.LineCause.{LineCause}
use Rattle.line_front.specs.declared.ends.LineCause.TheVariants as cause

-- how a put ended, unless there was no memory for it
abbrev pub end_of : Put → Option PutEnd
end_of put.Stored = Some entered.Stored
end_of put.Replaced = Some entered.Replaced
end_of put.Full = Some entered.Full
end_of put.NoMemory = None

-- the ends that a service has which writes nothing and calls no disk
abbrev pub IsLinkEnd : ServiceEnd → Type 0
IsLinkEnd end.Closed = Unit {0}
IsLinkEnd end.ReadFault = Unit {0}
IsLinkEnd end.Limit = Unit {0}
IsLinkEnd end.NoMemory = Unit {0}
IsLinkEnd (end.Stopped stop.WriteFault) = ⊥
IsLinkEnd (end.Stopped (stop.DiskFault class)) = ⊥
IsLinkEnd (end.Stopped stop.Spent) = Unit {0}
IsLinkEnd (end.Stopped stop.NoMemory) = Unit {0}

abbrev pub cause_of : ServiceEnd → LineCause
cause_of end.Closed = cause.Closed
cause_of end.ReadFault = cause.ReadFault
cause_of end.Limit = cause.LinkLimit
cause_of end.NoMemory = cause.NoMemory
cause_of (end.Stopped stop.WriteFault) = cause.NoMemory
cause_of (end.Stopped (stop.DiskFault class)) = cause.NoMemory
cause_of (end.Stopped stop.Spent) = cause.Spent
cause_of (end.Stopped stop.NoMemory) = cause.NoMemory
