mod Steps
mod RankTests
