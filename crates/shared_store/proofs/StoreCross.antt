-- Passes and shards may cross threads, and threads may share a store, where its disks may cross.
use Rattle.std.proofs.Crossing as own
use Rattle.std.proofs.MapsCrossing as maps
use denote.RattleType.{RattleType}
use denote.Struct.Field.{row_field}
use denote.Param.Send.{IsSend, IsSync, sendable}
use denote.Param.SendFields.{as_row_send, declared_send, declared_sync}
use Rattle.std.proofs.sync.Mutex.TheSendSync as mutex
use Rattle.atomic_table.proofs.shared.Seat.TheSendSync as seat
use Rattle.atomic_table.proofs.shared.Shared.TheSendSync as shared
use Rattle.atomic_table.proofs.send_lease.SendLease.TheSendSync as lease
use Rattle.std.specs.contracts.sync.Mutex as Mutex
use Rattle.outside_io.specs.declared.disk.Disk as Disk
use Rattle.schema_rules.proofs.RulesCross.{rules-send}
use Rattle.class_halves.proofs.HalvesCross.{desk-send as desk_half-send, files-send as files_half-send}
use Rattle.shard_core.specs.contracts.desk.Desk as Desk
use Rattle.shard_core.specs.contracts.files.Files as Files
use Rattle.shard_core.specs.contracts.work.Work as Work
use Rattle.shard_core.specs.contracts.work.Work.TheInside as WorkInside
use Rattle.shared_history.specs.contracts.parts.Pass as Pass
use Rattle.shared_history.specs.contracts.parts.Pass.TheInside as PassInside
use Rattle.shared_history.specs.contracts.parts.Tail as Tail
use Rattle.shared_history.specs.contracts.parts.Tail.TheInside as TailInside
use Rattle.shared_history.specs.contracts.parts.Order as Order
use Rattle.shared_history.specs.contracts.parts.Order.TheInside as OrderInside
use Rattle.shared_store.specs.contracts.class_desk.ClassDesk as ClassDesk
use Rattle.shared_store.specs.contracts.class_desk.ClassDesk.TheInside as ClassDeskInside
use Rattle.shared_store.specs.contracts.class_files.ClassFiles as ClassFiles
use Rattle.shared_store.specs.contracts.class_files.ClassFiles.TheInside as ClassFilesInside
use Rattle.shared_store.specs.contracts.order_desk.OrderDesk as OrderDesk
use Rattle.shared_store.specs.contracts.order_desk.OrderDesk.TheInside as OrderDeskInside
use Rattle.shared_store.specs.contracts.room.Room as Room
use Rattle.shared_store.specs.contracts.store.Store as Store
use Rattle.shared_store.specs.declared.named.Named as Named

ruleset parts = (seat.the_send, shared.the_send, shared.the_sync, lease.the_send, lease.the_sync, own.crosses, sendable)

pub pass-send : IsSend Pass.the_row
pass-send =
    let inside : IsSend PassInside.the_row = declared_send PassInside.the_type (search parts depth 60 fits 20000, (search parts depth 60 fits 20000, (search sendable, (search sendable, (search sendable, tt))))) in
    search (inside, sendable) depth 10

pub tail-send : IsSend Tail.the_row
tail-send =
    let inside : IsSend TailInside.the_row = declared_send TailInside.the_type (search parts depth 60 fits 20000, (search parts depth 60 fits 20000, (search sendable, tt))) in
    search (inside, sendable) depth 10

pub order-send : IsSend Order.the_row
order-send =
    let inside : IsSend OrderInside.the_row = declared_send OrderInside.the_type (search parts depth 60 fits 20000, (search parts depth 60 fits 20000, (search sendable, (search sendable, tt)))) in
    search (inside, sendable) depth 10

-- its fields in order: the class, the rules, the points, the picker, the table, and where memory comes from
shard_desk-send : IsSend Desk.the_row
shard_desk-send =
    declared_send Desk.the_type (search sendable, (rules-send, (search (own.crosses, maps.crosses, sendable) depth 60 fits 20000, (search (own.crosses, maps.crosses, sendable) depth 60 fits 20000, (search (own.crosses, maps.crosses, sendable) depth 60 fits 20000, (search (own.crosses, sendable) depth 60, tt))))))

-- its fields in order: the shelf, the name, and the redo
work-send : IsSend Work.the_row
work-send =
    let inside : IsSend WorkInside.the_row = declared_send WorkInside.the_type (search (own.crosses, maps.crosses, sendable) depth 60 fits 20000, (search (own.crosses, maps.crosses, sendable) depth 60 fits 20000, (search (own.crosses, maps.crosses, sendable) depth 60 fits 20000, tt))) in
    search (inside, sendable) depth 10

-- its fields in order: the class, the disk, the drain that is being written, and where memory comes from
shard_files-send : (D : RattleType) (d : Disk.Ghosts D.Denot) → IsSend D → IsSend (Files.the_row D d)
shard_files-send D d s =
    declared_send (Files.the_type D d) (search sendable, (as_row_send (row_field D) s, (work-send, (search (own.crosses, sendable) depth 60, tt))))

-- ---- what the locks of a store keep

desk-send : (N : RattleType) (n : Named.Ghosts N.Denot) → IsSend (ClassDesk.the_row N n)
desk-send N n =
    let inside : IsSend (ClassDeskInside.the_row N n) = declared_send (ClassDeskInside.the_type N n) (shard_desk-send, (tail-send, (desk_half-send, (search (own.crosses, sendable) depth 20, tt)))) in
    search (inside, sendable) depth 10

files-send : (D N : RattleType) (d : Disk.Ghosts D.Denot) (n : Named.Ghosts N.Denot) → IsSend D → IsSend (ClassFiles.the_row D N d n)
files-send D N d n s =
    let files : IsSend (Files.the_row D d) = shard_files-send D d s in
    let inside : IsSend (ClassFilesInside.the_row D N d n) = declared_send (ClassFilesInside.the_type D N d n) (files, (files_half-send, (search (own.crosses, sendable) depth 20, tt))) in
    search (inside, sendable) depth 10

order_desk-send : (N : RattleType) (n : Named.Ghosts N.Denot) → IsSend (OrderDesk.the_row N n)
order_desk-send N n =
    let inside : IsSend (OrderDeskInside.the_row N n) = declared_send (OrderDeskInside.the_type N n) (order-send, (search (own.crosses, sendable) depth 20, (search (own.crosses, sendable) depth 20, tt))) in
    search (inside, sendable) depth 10

room-send : (D : RattleType) (d : Disk.Ghosts D.Denot) → IsSend D → IsSend (Room.the_row D d)
room-send D d s = declared_send (Room.the_type D d) (search (s, own.crosses, sendable) depth 20, (search (tail-send, own.crosses, sendable) depth 20, tt))

pub store-sync : (D N : RattleType) (d : Disk.Ghosts D.Denot) (n : Named.Ghosts N.Denot) → IsSend D → IsSync (Store.the_row D N d n)
store-sync D N d n s =
    let order : IsSync (Mutex.the_row (OrderDesk.the_row N n)) = mutex.the_sync (OrderDesk.the_row N n) (order_desk-send N n) in
    let desk : IsSync (Mutex.the_row (ClassDesk.the_row N n)) = mutex.the_sync (ClassDesk.the_row N n) (desk-send N n) in
    let files : IsSync (Mutex.the_row (ClassFiles.the_row D N d n)) = mutex.the_sync (ClassFiles.the_row D N d n) (files-send D N d n s) in
    let room : IsSync (Mutex.the_row (Room.the_row D d)) = mutex.the_sync (Room.the_row D d) (room-send D d s) in
    declared_sync (Store.the_type D N d n) (search (order, own.crosses, sendable) depth 20, (search (desk, own.crosses, sendable) depth 20, (search (files, own.crosses, sendable) depth 20, (search (room, own.crosses, sendable) depth 20, tt))))
