mod Headings
mod Steps
