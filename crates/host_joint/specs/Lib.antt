-- messages in flight
pub mod Lines
pub mod Unlinking
-- an ask in hand
pub mod Jobs
pub mod Reads
pub mod Stage
pub mod Asking
-- what follows from an ask, and what a host does with it
pub mod Owned
pub mod Hosted
-- the recovery behind a ticket
pub mod Positions
pub mod Requests
pub mod Drains
-- a host that nothing disturbs
pub mod Hand
pub mod Pieces
pub mod Tie
-- a host that cancels, and recovers
pub mod Bond
-- both over a link
pub mod Remotes
pub mod Triggers
pub mod Joint
pub mod Next
pub mod Unplugged
pub mod Hits
pub mod Turns
pub mod Reasons
pub mod Races
-- a status read
pub mod StatusReads
-- any of these beside a submit to Interrupt-IN
pub mod Beside
-- a status read in any of its situations
pub mod StatusTickets
-- examples
pub mod WorkedAsks
pub mod WorkedTies
pub mod WorkedLines
pub mod WorkedPieces
pub mod WorkedAhead
pub mod WorkedRecoveries
pub mod WorkedUnplugging
pub mod WorkedTriggers
pub mod WorkedRemotes
pub mod WorkedReasons
pub mod WorkedStatusReads
pub mod WorkedRaces
pub mod WorkedBeside
pub mod WorkedNotices
pub mod Given
pub mod WorkedCancels
pub mod WorkedKept
