-- What stands beside the source and the sink: a wire and a disk.
use Rattle.aw_out.specs.declared.edge.Wire as wires
use Rattle.aw_disk.specs.declared.edge.Disk as disks

-- The wire and the disk before a run and after it, and what is seen of them.
pub record Devices : Type 1 where
  pub W : Type 0
  pub D : Type 0
  pub wire : wires.Ghosts W
  pub disk : disks.Ghosts D
  pub wire_before : W
  pub wire_after : W
  pub disk_before : D
  pub disk_after : D

-- what is seen of a wire and a disk, with both before a run and after it
abbrev pub around : {W D : Type 0} → wires.Ghosts W → disks.Ghosts D → W → W → D → D → Devices
around {W} {D} w d u v old new = record { W = W; D = D; wire = w; disk = d; wire_before = u; wire_after = v; disk_before = old; disk_after = new }

-- A wire before a run and after it, and what is seen of it.
pub record Wired : Type 1 where
  pub W : Type 0
  pub wire : wires.Ghosts W
  pub before : W
  pub after : W

-- what is seen of a wire, with the wire before a run and after it
abbrev pub wired : {W : Type 0} → wires.Ghosts W → W → W → Wired
wired {W} w u v = record { W = W; wire = w; before = u; after = v }

-- the wire of a run
abbrev pub wired_in : Devices → Wired
wired_in x = wired x.wire x.wire_before x.wire_after
