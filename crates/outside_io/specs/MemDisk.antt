-- What the disk in memory holds, and what its calls leave.
use Rattle.std.specs.Prelude.{ℕ, ◌+◌, ◌-◌, ◌^◌, ◌<◌, ◌⊎◌, List, [], length, Bool, true, false, String, Vec, max, min, replicate, option_map, if◌then◌else◌}
use Rattle.std.specs.Option.{option_map_or}
use Rattle.std.specs.BTreeMap.{BTreeMap, get_by_text}
use Rattle.outside_io.specs.declared.disk_calls.DiskCalls.{DiskCalls}
use Rattle.outside_io.specs.declared.disk_state.DiskState.{DiskState}
use Rattle.outside_io.specs.declared.mem_disk.MemDisk.{MemDisk}
use Rattle.outside_io.specs.Calls.{fails_next, after_call, listed_calls}
use Rattle.outside_io.specs.Crash.{Crashes}
use Rattle.outside_io.specs.DiskLog.{Outcomes, LeftSince}
use Rattle.outside_io.specs.Faults.{raised}
use Rattle.outside_io.specs.Image.{Image, SameImage, Writes}

-- a map of files as an image
abbrev pub image_of : {A B : Type 0} → BTreeMap (String A) (Vec ℕ B) → Image
image_of files = λ name. option_map (λ file. file.items) (get_by_text files name)

-- the bytes under each name
abbrev pub disk_image : MemDisk → Image
disk_image disk = image_of disk.files

-- what a crash may leave of it, its moment, and what a crash since a moment might have left
abbrev pub disk_may_leave : MemDisk → Image → Type 0
disk_may_leave disk = Outcomes (disk_image disk) disk.log

abbrev pub disk_moment : MemDisk → ℕ
disk_moment disk = length disk.log

abbrev pub disk_left_since : MemDisk → ℕ → Image → Type 0
disk_left_since disk = LeftSince (disk_image disk) disk.log

-- what a call says of crashes
abbrev pub DiskCrashes : (Image → Image → Type 0) → MemDisk → MemDisk → Type 0
DiskCrashes = Crashes disk_may_leave disk_moment disk_left_since

-- how many bytes a file holds, 0 where it is not there
abbrev pub held_bytes : Image → List ℕ → ℕ
held_bytes image name = option_map_or length (image name) 0

-- the room, which calls fail, and the counts
abbrev pub state_of : MemDisk → DiskState
state_of disk = disk.state

-- nothing was called yet, and nothing fails
abbrev pub new_state : ℕ → DiskState
new_state room = record {
  room = room;
  writes = listed_calls [];
  reads = listed_calls [];
  tears = false;
  calls = record { names = 0; lengths = 0; creates = 0; reads = 0; writes = 0; syncs = 0; longest_read = 0 };
  faults = 0;
}

-- a call that reads was counted, and failed where it was listed
abbrev pub after_reading : DiskState → DiskCalls → DiskState
after_reading state calls = record state {
  reads = after_call state.reads;
  calls = calls;
  faults = if fails_next state.reads then raised state.faults else state.faults;
}

abbrev pub after_names : DiskState → DiskState
after_names state = after_reading state (record state.calls { names = raised state.calls.names })

abbrev pub after_length : DiskState → DiskState
after_length state = after_reading state (record state.calls { lengths = raised state.calls.lengths })

-- a read of so many bytes
abbrev pub after_read : DiskState → ℕ → DiskState
after_read state count = after_reading state
    (record state.calls { reads = raised state.calls.reads; longest_read = max state.calls.longest_read count })

-- a write was counted
abbrev pub after_writing : DiskState → DiskState
after_writing state =
    record state { writes = after_call state.writes; calls = record state.calls { writes = raised state.calls.writes } }

-- a write, or a write that failed
abbrev pub after_write : DiskState → Bool → DiskState
after_write state failed =
    record (after_writing state) { faults = if failed then raised state.faults else state.faults }

-- a sync was counted
abbrev pub after_syncing : DiskState → DiskState
after_syncing state =
    record state { writes = after_call state.writes; calls = record state.calls { syncs = raised state.calls.syncs } }

-- a sync, or a sync that failed
abbrev pub after_sync : DiskState → Bool → DiskState
after_sync state failed =
    record (after_syncing state) { faults = if failed then raised state.faults else state.faults }

-- the room does not reach for the file to have so many bytes
abbrev pub IsBeyondRoom : MemDisk → List ℕ → ℕ → Type 0
IsBeyondRoom disk name len = (state_of disk).room + held_bytes (disk_image disk) name < len

-- the room that is left once the file has so many bytes; where the create failed it is as before
abbrev pub room_left : MemDisk → List ℕ → ℕ → Bool → ℕ
room_left disk name len failed =
    if failed then (state_of disk).room
    else min ((state_of disk).room + held_bytes (disk_image disk) name - len) (2 ^ 64 - 1)

-- a file was created with so many bytes, or the create failed
abbrev pub after_create : DiskState → ℕ → Bool → DiskState
after_create state room failed = record state {
  room = room;
  writes = after_call state.writes;
  calls = record state.calls { creates = raised state.calls.creates };
  faults = if failed then raised state.faults else state.faults;
}

-- each byte of the range is 255 where the disk tears and there is memory to log it, and else all is as before
abbrev pub IsTornImage : Bool → Image → Image → List ℕ → ℕ → ℕ → Type 0
IsTornImage true before after name at count = Writes before after name at (replicate count 255) ⊎ SameImage before after
IsTornImage false before after name at count = SameImage before after

-- what a failed write leaves
abbrev pub LeavesTorn : MemDisk → MemDisk → List ℕ → ℕ → ℕ → Type 0
LeavesTorn before after name at count =
    IsTornImage (state_of before).tears (disk_image before) (disk_image after) name at count
