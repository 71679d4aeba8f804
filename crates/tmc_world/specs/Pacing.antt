-- the rooms of a link: how many bytes its next send and its next poll may move
use Rattle.std.specs.Prelude.{◌≡◌, ℕ, min}
use Rattle.tmc_world.specs.declared.pace.Pace.{Pace}
use Rattle.tmc_world.specs.declared.pace.Pace.TheVariants.{Calm, Paced}

-- how many of so many bytes that are offered; a calm link moves all
abbrev pub send_room : Pace → ℕ → ℕ
send_room Calm offered = offered
send_room (Paced rooms) offered = min offered rooms.send

abbrev pub poll_room : Pace → ℕ → ℕ
poll_room Calm offered = offered
poll_room (Paced rooms) offered = min offered rooms.poll

-- a calm link has no rooms
abbrev pub with_send_room : ℕ → Pace → Pace
with_send_room room Calm = Calm
with_send_room room (Paced rooms) = Paced (record rooms { send = room })

abbrev pub with_poll_room : ℕ → Pace → Pace
with_poll_room room Calm = Calm
with_poll_room room (Paced rooms) = Paced (record rooms { poll = room })

-- behind a call its room is used up
abbrev pub send_shut : Pace → Pace
send_shut pace = with_send_room 0 pace

abbrev pub poll_shut : Pace → Pace
poll_shut pace = with_poll_room 0 pace

-- the link goes by rooms, and there is none for a send
abbrev pub NoSendRoom : Pace → Type 0
NoSendRoom Calm = ⊥
NoSendRoom (Paced rooms) = rooms.send ≡ 0

-- or for a poll
abbrev pub NoPollRoom : Pace → Type 0
NoPollRoom Calm = ⊥
NoPollRoom (Paced rooms) = rooms.poll ≡ 0
